use Rattle.vbr_slots.proofs.steps.Counting.{exact, flag_took}
use Rattle.vbr_slots.proofs.slots.Slots.take_flag.Goals as goal

pub invariant_of-pass : goal.invariant_of-pass
invariant_of-pass g c =
    exact c.at.ensures.pass c.pass.invariant.steps c.steps_after-pass-inside.ensures
    (flag_took _ _ _ c.take_flag.result c.take_flag.ensures.taken c.take_flag.ensures.missed)
