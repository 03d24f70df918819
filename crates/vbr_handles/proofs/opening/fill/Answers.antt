use Rattle.vbr_handles.proofs.Names.{ap, length, ◌∙◌, arith, length-set, map-set_same}
use Rattle.vbr_handles.proofs.AllHandles.{one_more}
use Rattle.vbr_handles.proofs.opening.fill.Goals as goal

pub loop-i-preserved : goal.loop-i-preserved
loop-i-preserved g c =
    let within = c.loop-i-test.true in
    let long = c.loop-i.invariant.long in
    let left = c.loop-i.invariant.left in
    let split = c.in-Some.ensures.items in
    let fewer = ap (λ xs. length xs) split in
    let kept = length-set c.loop-i.handles c.loop-i.i c.swap.new.self in
    record {
      long = kept ∙ long;
      left = omega arith;
      so_far = one_more g.H.HandleOf.member (λ o. o.member) c.loop-i.handles c.loop-i.i c.swap.new.self c.in-Some.owner
          _ _ _ (omega arith) split c.swap.ensures.taken c.loop-i.invariant.so_far;
      steps = map-set_same g.H.HandleOf.steps c.loop-i.handles c.loop-i.i c.swap.new.self c.index-handles-i.result
          c.swap.ensures.steps ∙ c.loop-i.invariant.steps;
      openings = map-set_same g.H.HandleOf.opening c.loop-i.handles c.loop-i.i c.swap.new.self c.index-handles-i.result
          c.swap.ensures.opening ∙ c.loop-i.invariant.openings;
    }
