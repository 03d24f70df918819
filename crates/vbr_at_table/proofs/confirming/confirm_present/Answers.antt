use Rattle.std.proofs.Common.{◌<◌, subst}
use Rattle.vbr_machine.specs.Start.{Start}
use Rattle.vbr_words.specs.declared.place.At.{At}
use Rattle.vbr_machine.specs.Membership.{KeyAt}
use Rattle.vbr_slots.specs.views.Views.{knows}
use Rattle.vbr_at_table.specs.reads.Held.{said}
use Rattle.vbr_at_table.specs.answers.Values.{AnswersEntry, ValueAt}
use Rattle.vbr_at_table.proofs.steps.Accepted.{accepted_checked, present_accepted}
use Rattle.vbr_at_table.proofs.answers.AnsweringLoads.{present_answered, present_finds, present_keeps}
use Rattle.vbr_at_table.proofs.answers.Records.{confirmed_entry}
use Rattle.vbr_at_table.proofs.confirming.confirm_present.Given as given
use Rattle.vbr_at_table.proofs.confirming.confirm_present.Goals as goal

pub confirm_present-requires-clause-slot : goal.confirm_present-requires-clause-slot
confirm_present-requires-clause-slot g c =
    let P : Start → Type 0 = λ start. c.in-Slot.slot < start.shape.slots in
    subst P c.args.at.now.own.1
    (present_accepted c.args.at.now.stepper.now c.law.ensures c.args.op (said c.args.at.now.slots.now c.args.held.now)
    c.in-Slot.slot
    c.requires.node.held c.in-Slot.is c.requires.node.key c.requires.node.unmarked c.requires.op
    c.requires.asked).in_shape.0

pub confirm_present-requires-clause-checked : goal.confirm_present-requires-clause-checked
confirm_present-requires-clause-checked g c =
    accepted_checked c.args.at.now.own
    (present_accepted c.args.at.now.stepper.now c.law.ensures c.args.op (said c.args.at.now.slots.now c.args.held.now)
    c.in-Slot.slot
    c.requires.node.held c.in-Slot.is c.requires.node.key c.requires.node.unmarked c.requires.op c.requires.asked)

pub returns-in-Ok-clause-keeps : goal.returns-in-Ok-clause-keeps
returns-in-Ok-clause-keeps g c = present_keeps c.in-Ok.ensures.found.did c.in-Ok.ensures.found.keeps

pub returns-in-Err-clause-keeps : goal.returns-in-Err-clause-keeps
returns-in-Err-clause-keeps g c = present_keeps c.in-Err.ensures.other.did c.in-Err.ensures.other.keeps

answered : (g : given.Over) (c : goal.In-Ok g) →
    AnswersEntry c.args.at.now.stepper.now.trace c.confirm_present.new.self.stepper.now.trace c.args.op
    (said c.args.at.now.slots.now c.args.held.now)
answered g c = record {
  answers = (λ key value k v.
      let P : At → Type 0 = λ place. KeyAt (knows c.args.at.now.stepper.now.trace) place key in
      let V : At → Type 0 = λ place. ValueAt (knows c.args.at.now.stepper.now.trace) place value in
      present_answered c.law.ensures.start c.law.ensures.is_run c.in-Ok.ensures.found.did key value
      (subst P c.in-Slot.is k) (λ get. subst V c.in-Slot.is (v get)));
}

pub returns-in-Ok-clause-answers : goal.returns-in-Ok-clause-answers
returns-in-Ok-clause-answers g c = answered g c

pub returns-in-Ok-clause-there : goal.returns-in-Ok-clause-there
returns-in-Ok-clause-there g c =
    confirmed_entry (said c.args.at.now.slots.now c.args.held.now) c.in-Slot.slot c.law.ensures.start c.in-Slot.is
    c.requires.node.held
    c.requires.node.unmarked c.in-Ok.ensures.found.did

pub returns-in-Err-clause-lost : goal.returns-in-Err-clause-lost
returns-in-Err-clause-lost g c =
    present_finds (said c.args.at.now.slots.now c.args.held.now) c.in-Err.ensures.other.unexpected c.in-Slot.slot
    c.in-Slot.is
    c.in-Err.ensures.other.did
