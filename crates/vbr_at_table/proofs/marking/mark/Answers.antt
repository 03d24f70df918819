use Rattle.std.proofs.Common.{◌<◌, subst, refl, rules}
use Rattle.vbr_machine.specs.Start.{Start}
use Rattle.vbr_at_table.specs.reads.Held.{said}
use Rattle.vbr_at_table.proofs.epochs.Advancing.{did_none}
use Rattle.vbr_slots.proofs.Lemmas.{did_same, did_seen}
use Rattle.vbr_at_table.proofs.exchanges.ExchangeCalls.{run_after}
use Rattle.vbr_at_table.proofs.steps.Unchanged.{unchanged_by_none}
use Rattle.vbr_at_table.proofs.steps.Accepted.{accepted_checked, mark_accepted}
use Rattle.vbr_at_table.proofs.exchanges.WonExchanges.{mark_keeps}
use Rattle.vbr_at_table.proofs.steps.MadeCalls.{mark_adds_none, mark_failed}
use Rattle.vbr_at_table.proofs.exchanges.ExchangeCalls.{mark_told}
use Rattle.vbr_at_table.proofs.answers.Records.{marked_entry}
use Rattle.vbr_at_table.proofs.steps.SaidWords.{said_marks}
use Rattle.vbr_at_table.proofs.marking.mark.Goals as goal

pub mark-requires-clause-slot : goal.mark-requires-clause-slot
mark-requires-clause-slot g c =
    let P : Start → Type 0 = λ start. c.in-Slot.slot < start.shape.slots in
    subst P c.args.at.now.own.1
    (mark_accepted c.args.at.now.stepper.now c.law.ensures (said c.args.at.now.slots.now c.args.held.now) c.in-Slot.slot
    c.requires.node.held
    c.in-Slot.is c.requires.node.key c.requires.node.unmarked c.requires.valued).in_shape

pub mark-requires-clause-checked : goal.mark-requires-clause-checked
mark-requires-clause-checked g c =
    accepted_checked c.args.at.now.own
    (mark_accepted c.args.at.now.stepper.now c.law.ensures (said c.args.at.now.slots.now c.args.held.now) c.in-Slot.slot
    c.requires.node.held
    c.in-Slot.is c.requires.node.key c.requires.node.unmarked c.requires.valued)

pub returns-in-Ok-clause-keeps : goal.returns-in-Ok-clause-keeps
returns-in-Ok-clause-keeps g c = record {
  took = search rules;
  own = search rules;
  takes_no_slot = did_none c.in-Ok.ensures.found.did refl tt c.in-Ok.ensures.found.keeps;
  keeps = mark_keeps c.in-Ok.ensures.found.did;
}

pub returns-in-Err-clause-keeps : goal.returns-in-Err-clause-keeps
returns-in-Err-clause-keeps g c = record {
  took = search rules;
  own = search rules;
  takes_no_slot = did_none c.in-Err.ensures.other.did refl tt c.in-Err.ensures.other.keeps;
  keeps = search rules;
}

pub returns-in-Ok-clause-removed : goal.returns-in-Ok-clause-removed
returns-in-Ok-clause-removed g c = mark_told (said c.args.at.now.slots.now c.args.held.now) c.law.ensures.start
    c.law.ensures.is_run
    c.requires.node.held c.in-Slot.is c.in-Ok.ensures.found.did
    (said_marks _ _ c.args.held.now.word _
    c.layout.ensures.layout c.with_mark-word.ensures)

pub returns-in-Err-clause-lost : goal.returns-in-Err-clause-lost
returns-in-Err-clause-lost g c = record {
  quiet = mark_failed c.in-Err.ensures.other.did c.in-Err.ensures.other.unexpected;
  lost = search rules;
  unchanged = unchanged_by_none c.law.ensures.start (run_after c.law.ensures.start c.in-Err.ensures.other.did)
      (did_same c.in-Err.ensures.other.did) (did_seen c.in-Err.ensures.other.did)
      (mark_adds_none c.in-Err.ensures.other.did c.in-Err.ensures.other.unexpected);
}

pub returns-in-Ok-clause-there : goal.returns-in-Ok-clause-there
returns-in-Ok-clause-there g c = marked_entry (said c.args.at.now.slots.now c.args.held.now) c.in-Slot.slot
    c.law.ensures.start c.in-Slot.is
    c.requires.node.held c.requires.node.unmarked c.in-Ok.ensures.found.did
