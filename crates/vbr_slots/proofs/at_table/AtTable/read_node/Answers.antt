use Rattle.std.proofs.Common.{refl, ap, ◌∙◌}
use Rattle.vbr_machine.specs.declared.event.Step.TheVariants.{LoadBirth, LoadLink}
use Rattle.vbr_words.specs.declared.place.At.TheVariants.{Slot}
use Rattle.vbr_slots.specs.views.Views.{PassView, knows}
use Rattle.vbr_slots.proofs.steps.Learning.{epoch_stays, stays_beside}
use Rattle.vbr_slots.proofs.steps.Steppers.{stays_well}
use Rattle.vbr_slots.proofs.at_table.AtTable.read_node.Goals as goal

pub returns-clause-stays : goal.returns-clause-stays
returns-clause-stays g c = stays_beside c.read_epoch_as-read.ensures.stays
    (ap (λ (v : PassView). (knows v.trace).epoch) c.stepper.view_is
    ∙ epoch_stays (LoadLink (Slot c.args.slot)) c.load_link_at-word.ensures.step (λ found epoch. refl)
    ∙ epoch_stays (LoadBirth c.args.slot) c.load_word-birth.ensures.step (λ found epoch. refl))

pub invariant_of-stepper : goal.invariant_of-stepper
invariant_of-stepper g c = stays_well c.stepper.inside c.read_epoch_as-read.ensures.step tt c.stepper.invariant
