use Rattle.std.proofs.Common.{ap, ◌∙◌}
use Rattle.vbr_slots.specs.views.Views.{PassView, knows}
use Rattle.vbr_slots.proofs.steps.Learning.{epoch_stays, stays_beside}
use Rattle.vbr_slots.proofs.steps.Steppers.{stays_well}
use Rattle.vbr_slots.proofs.slots.Slots.load_and_epoch.Goals as goal

pub returns-clause-stays : goal.returns-clause-stays
returns-clause-stays g c = stays_beside c.read_epoch_as-read.ensures.stays
    (ap (λ (v : PassView). (knows v.trace).epoch) c.stepper.view_is
    ∙ epoch_stays c.args.step c.load-found.ensures.step c.requires.stays)

pub invariant_of-stepper : goal.invariant_of-stepper
invariant_of-stepper g c = stays_well c.stepper.inside c.read_epoch_as-read.ensures.step tt c.stepper.invariant
