use Rattle.vbr_slots.proofs.steps.Counting.{exact, advance_took}
use Rattle.vbr_slots.proofs.slots.Slots.advance.Goals as goal

pub invariant_of-pass : goal.invariant_of-pass
invariant_of-pass g c =
    exact c.at.ensures.pass c.pass.invariant.steps c.steps_after-pass-inside.ensures
    (advance_took _ _ _ _ c.advance.result c.advance.ensures.step)
