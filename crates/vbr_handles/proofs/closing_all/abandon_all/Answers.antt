use Rattle.vbr_handles.proofs.Names.{◌≡◌, ◌∙◌, None, arith, length-set, map-set_same, AllWithin-more_set}
use Rattle.vbr_handles.proofs.closing_all.abandon_all.Goals as goal

pub loop-i-preserved : goal.loop-i-preserved
loop-i-preserved g c =
    let within = c.loop-i-test.true in
    let long = c.loop-i.invariant.long in
    record {
      long = length-set c.loop-i.handles c.loop-i.i c.swap.new.self ∙ long;
      empty = AllWithin-more_set c.loop-i.handles c.loop-i.i c.swap.new.self (omega arith)
          (λ (h : g.row.H.Denot). g.H.HandleOf.member h ≡ None) c.loop-i.invariant.empty
          (c.swap.ensures.taken ∙ c.empty-owner.ensures);
      steps = map-set_same g.H.HandleOf.steps c.loop-i.handles c.loop-i.i c.swap.new.self c.index-handles-i.result
          c.swap.ensures.steps ∙ c.loop-i.invariant.steps;
      openings = map-set_same g.H.HandleOf.opening c.loop-i.handles c.loop-i.i c.swap.new.self c.index-handles-i.result
          c.swap.ensures.opening ∙ c.loop-i.invariant.openings;
    }
