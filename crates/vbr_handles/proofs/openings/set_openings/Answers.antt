use Rattle.vbr_handles.proofs.Names.{◌≡◌, ◌∙◌, arith, length-set, map-set_same, AllWithin-more_set}
use Rattle.vbr_handles.proofs.openings.set_openings.Goals as goal

pub loop-i-preserved : goal.loop-i-preserved
loop-i-preserved g c =
    let within = c.loop-i-test.true in
    let i = c.loop-i.invariant in
    let long = i.long in
    record {
      long = length-set c.loop-i.handles c.loop-i.i c.set_opening.new.self ∙ long;
      numbered = AllWithin-more_set c.loop-i.handles c.loop-i.i c.set_opening.new.self (omega arith)
          (λ (h : g.row.H.Denot). g.H.HandleOf.opening h ≡ c.args.number) i.numbered c.set_opening.ensures.opening;
      members = map-set_same g.H.HandleOf.member c.loop-i.handles c.loop-i.i c.set_opening.new.self
          c.index-handles-i.result c.set_opening.ensures.member ∙ i.members;
      steps = map-set_same g.H.HandleOf.steps c.loop-i.handles c.loop-i.i c.set_opening.new.self
          c.index-handles-i.result c.set_opening.ensures.steps ∙ i.steps;
    }
