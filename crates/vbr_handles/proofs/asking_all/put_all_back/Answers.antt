use Rattle.vbr_handles.proofs.Names.{ap, length, ◌∙◌, arith, Some, length-set, map-set_same}
use Rattle.vbr_handles.proofs.AllHandles.{one_more}
use Rattle.vbr_handles.proofs.asking_all.put_all_back.Goals as goal

pub loop-i-preserved : goal.loop-i-preserved
loop-i-preserved g c =
    let within = c.loop-i-test.true in
    let i = c.loop-i.invariant in
    let long = i.long in
    let left = i.left in
    let blocks = i.blocks in
    let fewer = ap (λ xs. length xs) c.in-Some-Some.ensures.items in
    let fewer' = ap (λ xs. length xs) c.in-Some-Some.ensures'.items in
    let kept = length-set c.loop-i.handles c.loop-i.i c.put_back.new.handle in
    record {
      long = kept ∙ long;
      left = omega arith;
      blocks = omega arith;
      so_far = one_more g.H.HandleOf.member (λ m. Some m) c.loop-i.handles c.loop-i.i c.put_back.new.handle
          c.in-Some-Some.member _ _ _ (omega arith) c.in-Some-Some.ensures.items c.put_back.ensures.member i.so_far;
      steps = map-set_same g.H.HandleOf.steps c.loop-i.handles c.loop-i.i c.put_back.new.handle c.index-handles-i.result
          c.put_back.ensures.steps ∙ i.steps;
      openings = map-set_same g.H.HandleOf.opening c.loop-i.handles c.loop-i.i c.put_back.new.handle
          c.index-handles-i.result c.put_back.ensures.opening ∙ i.openings;
    }
