use Rattle.vbr_slots.proofs.steps.Counting.{exact, publishes_took}
use Rattle.vbr_slots.proofs.slots.Slots.publish.Goals as goal

pub invariant_of-pass : goal.invariant_of-pass
invariant_of-pass g c =
    exact c.at.ensures.pass c.pass.invariant.steps c.steps_after-pass-inside.ensures
    (publishes_took _ _ _ _ _ _ c.publish.result c.publish.ensures.found c.publish.ensures.other)
