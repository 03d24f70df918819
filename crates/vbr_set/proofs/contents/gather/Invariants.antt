use Rattle.std.proofs.Common.{◌≡◌, ◌+◌, ◌≤◌, List, length}
use Rattle.std.specs.Vec.{vec_capacity}
use Rattle.vbr_machine.specs.Accounts.{incarnations_after}
use Rattle.vbr_machine.specs.declared.event.Event.{Event}
use Rattle.vbr_slots.specs.declared.rule.Opened.{Opened}
use Rattle.vbr_slots.specs.runs.Rule.{with_opened}
use Rattle.vbr_set.specs.reports.Walking.{AreAfter, NotesLists}
use Rattle.vbr_set.proofs.reports.Gathering.{Gathered}
use Rattle.vbr_set.proofs.contents.gather.Given as goal

abbrev pub invariant-loop-slot : goal.invariant-loop-slot
invariant-loop-slot g l = record {
  gathered : (opened : Opened) (run : List Event) → AreAfter (with_opened l.shape opened) l.words run →
      NotesLists (with_opened l.shape opened) (incarnations_after (with_opened l.shape opened) run) l.notes →
      Gathered (g.N.Kind.shown (incarnations_after (with_opened l.shape opened) run))
      (incarnations_after (with_opened l.shape opened) run) l.slot l.listed.items l.live l.marked;
  few : l.live + l.marked ≤ l.slot;
  collected : length l.listed.items ≡ l.live;
  room : l.shape.slots ≤ vec_capacity l.listed;
}
