use Rattle.vbr_slots.proofs.steps.Counting.{exact, expects_took}
use Rattle.vbr_slots.proofs.slots.Slots.confirm_look_up.Goals as goal

pub invariant_of-pass : goal.invariant_of-pass
invariant_of-pass g c =
    exact c.at.ensures.pass c.pass.invariant.steps c.steps_after-pass-inside.ensures
    (expects_took _ _ _ _ _ c.confirm_look_up.result c.confirm_look_up.ensures.found c.confirm_look_up.ensures.other)
