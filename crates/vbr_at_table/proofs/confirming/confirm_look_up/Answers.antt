use Rattle.std.proofs.Common.{subst}
use Rattle.vbr_machine.specs.Start.{Start}
use Rattle.vbr_machine.specs.Acceptance.{Accepts}
use Rattle.vbr_slots.specs.steps.LookUpStep.{look_up}
use Rattle.vbr_slots.specs.views.Views.{knows}
use Rattle.vbr_at_table.specs.reads.Held.{said}
use Rattle.vbr_at_table.proofs.answers.LookUpAnswers.{look_up_accepted, look_up_answered, look_up_finds, look_up_keeps}
use Rattle.vbr_at_table.proofs.confirming.confirm_look_up.Goals as goal

pub confirm_look_up-requires : goal.confirm_look_up-requires
confirm_look_up-requires g c =
    let P : Start → Type 0 =
    λ start. Accepts start (knows c.args.at.now.stepper.now.trace)
    (look_up c.args.present c.args.key c.args.held.now.at (said c.args.at.now.slots.now c.args.held.now).word) in
    record {
      accepted =
          subst P c.args.at.now.own.1
          (look_up_accepted c.args.at.now.stepper.now c.law.ensures c.args.key
          (said c.args.at.now.slots.now c.args.held.now) c.requires.held.held
          c.requires.held.unmarked c.args.present c.requires.decides);
    }

pub returns-in-Ok-clause-keeps : goal.returns-in-Ok-clause-keeps
returns-in-Ok-clause-keeps g c =
    look_up_keeps c.args.present c.args.key c.args.held.now.at (said c.args.at.now.slots.now c.args.held.now).word
    c.in-Ok.ensures.found.did
    c.in-Ok.ensures.found.keeps

pub returns-in-Err-clause-keeps : goal.returns-in-Err-clause-keeps
returns-in-Err-clause-keeps g c =
    look_up_keeps c.args.present c.args.key c.args.held.now.at (said c.args.at.now.slots.now c.args.held.now).word
    c.in-Err.ensures.other.did
    c.in-Err.ensures.other.keeps

pub returns-in-Ok-clause-answers : goal.returns-in-Ok-clause-answers
returns-in-Ok-clause-answers g c = look_up_answered c.args.at.now.stepper.now c.law.ensures c.args.key
    (said c.args.at.now.slots.now c.args.held.now)
    c.confirm_look_up.new.self.stepper.now c.args.present c.requires.decides c.in-Ok.ensures.found.did

pub returns-in-Err-clause-lost : goal.returns-in-Err-clause-lost
returns-in-Err-clause-lost g c =
    look_up_finds c.args.at.now.stepper.now c.law.ensures c.args.key (said c.args.at.now.slots.now c.args.held.now)
    c.confirm_look_up.new.self.stepper.now c.args.present _ c.in-Err.ensures.other.did c.in-Err.ensures.other.unexpected
