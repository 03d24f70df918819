use Rattle.std.proofs.Common.{subst, refl}
use Rattle.vbr_machine.specs.Start.{Start}
use Rattle.vbr_machine.specs.Acceptance.{IsAtIn}
use Rattle.vbr_at_table.specs.reads.Held.{said}
use Rattle.vbr_at_table.proofs.steps.Accepted.{accepted_checked, place_in, absent_accepted}
use Rattle.vbr_at_table.proofs.answers.AnsweringLoads.{absent_answered, absent_finds, absent_keeps}
use Rattle.vbr_at_table.proofs.confirming.confirm_absent.Goals as goal

pub confirm_absent-requires-clause-holder : goal.confirm_absent-requires-clause-holder
confirm_absent-requires-clause-holder g c =
    let P : Start → Type 0 = λ start. IsAtIn start c.args.pred.now.at in
    subst P c.args.at.now.own.1 (place_in c.args.at.now.stepper.now c.law.ensures
    (said c.args.at.now.slots.now c.args.pred.now) c.requires.gap.held)

pub confirm_absent-requires-clause-checked : goal.confirm_absent-requires-clause-checked
confirm_absent-requires-clause-checked g c =
    accepted_checked c.args.at.now.own
    (absent_accepted c.args.at.now.stepper.now c.law.ensures c.args.op c.args.key
    (said c.args.at.now.slots.now c.args.pred.now) c.requires.gap.held
    c.requires.gap.behind c.requires.gap.before c.requires.gap.unmarked c.requires.op.other c.requires.op.asked)

pub returns-in-Ok-clause-keeps : goal.returns-in-Ok-clause-keeps
returns-in-Ok-clause-keeps g c = absent_keeps c.in-Ok.ensures.found.did c.in-Ok.ensures.found.keeps

pub returns-in-Err-clause-keeps : goal.returns-in-Err-clause-keeps
returns-in-Err-clause-keeps g c = absent_keeps c.in-Err.ensures.other.did c.in-Err.ensures.other.keeps

pub returns-in-Ok-clause-answers : goal.returns-in-Ok-clause-answers
returns-in-Ok-clause-answers g c = absent_answered c.in-Ok.ensures.found.did

pub returns-in-Err-clause-lost : goal.returns-in-Err-clause-lost
returns-in-Err-clause-lost g c =
    absent_finds (said c.args.at.now.slots.now c.args.pred.now) c.in-Err.ensures.other.unexpected c.args.pred.now.at
    refl c.in-Err.ensures.other.did
