use Rattle.std.proofs.Common.{◌≡◌, ◌≤◌, List, length}
use Rattle.std.specs.Vec.{vec_capacity}
use Rattle.vbr_machine.specs.Accounts.{incarnations_after}
use Rattle.vbr_machine.specs.declared.event.Event.{Event}
use Rattle.vbr_slots.specs.declared.rule.Opened.{Opened}
use Rattle.vbr_slots.specs.runs.Rule.{with_opened}
use Rattle.vbr_set.specs.reports.EntrySlots.{key_with_slot}
use Rattle.vbr_set.specs.reports.Walking.{AreAfter, NotesLists, linked_of}
use Rattle.vbr_set.proofs.entry_slots.gather_keys.Given as goal

-- the linked nodes of the slots so far are listed, and there is room for one of each slot
abbrev pub invariant-loop-slot : goal.invariant-loop-slot
invariant-loop-slot l = record {
  gathered : (opened : Opened) (run : List Event) → AreAfter (with_opened l.shape opened) l.words run →
      NotesLists (with_opened l.shape opened) (incarnations_after (with_opened l.shape opened) run) l.notes →
      l.keyed.items ≡ linked_of (key_with_slot (incarnations_after (with_opened l.shape opened) run))
      (incarnations_after (with_opened l.shape opened) run) l.slot;
  few : length l.keyed.items ≤ l.slot;
  room : l.shape.slots ≤ vec_capacity l.keyed;
}
