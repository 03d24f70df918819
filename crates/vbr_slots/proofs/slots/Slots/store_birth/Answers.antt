use Rattle.vbr_slots.proofs.steps.Calls.{did_took}
use Rattle.vbr_slots.proofs.steps.Counting.{exact}
use Rattle.vbr_slots.proofs.slots.Slots.store_birth.Goals as goal

pub invariant_of-pass : goal.invariant_of-pass
invariant_of-pass g c =
    exact c.at.ensures.pass c.pass.invariant.steps c.steps_after-pass-inside.ensures
    (did_took c.store_birth.ensures.step.did)
