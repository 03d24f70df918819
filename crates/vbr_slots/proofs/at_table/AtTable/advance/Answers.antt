use Rattle.vbr_slots.proofs.steps.Steppers.{stays_well}
use Rattle.vbr_slots.proofs.at_table.AtTable.advance.Goals as goal

pub invariant_of-stepper : goal.invariant_of-stepper
invariant_of-stepper g c = stays_well c.stepper.inside c.exchange.ensures tt c.stepper.invariant
