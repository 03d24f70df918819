use Rattle.vbr_slots.proofs.steps.Counting.{exact, expects_took}
use Rattle.vbr_slots.proofs.slots.Slots.confirm_present.Goals as goal

pub invariant_of-pass : goal.invariant_of-pass
invariant_of-pass g c =
    exact c.at.ensures.pass c.pass.invariant.steps c.steps_after-pass-inside.ensures
    (expects_took _ _ _ _ _ c.confirm_present.result c.confirm_present.ensures.found c.confirm_present.ensures.other)
