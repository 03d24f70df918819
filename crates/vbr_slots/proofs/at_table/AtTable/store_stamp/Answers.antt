use Rattle.std.proofs.Common.{refl, rules}
use Rattle.vbr_slots.proofs.steps.Steppers.{well_after}
use Rattle.vbr_slots.proofs.at_table.AtTable.store_stamp.Goals as goal

pub invariant_of-stepper : goal.invariant_of-stepper
invariant_of-stepper g c = well_after c.stepper.inside c.store.ensures refl (search rules) c.stepper.invariant
