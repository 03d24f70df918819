use Rattle.vbr_slots.proofs.steps.Counting.{exact, replaces_took}
use Rattle.vbr_slots.proofs.slots.Slots.replace.Goals as goal

pub invariant_of-pass : goal.invariant_of-pass
invariant_of-pass g c =
    exact c.at.ensures.pass c.pass.invariant.steps c.steps_after-pass-inside.ensures
    (replaces_took _ _ _ _ _ _ c.replace.result c.replace.ensures.found c.replace.ensures.other)
