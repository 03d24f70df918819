use Rattle.std.proofs.Common.{◌≡◌, ◌≤◌, ◌+◌, ◌++◌, length}
use Rattle.std.specs.Vec.{vec_capacity}
use Rattle.std.specs.Vec.Iter.{into_iter_items}
use Rattle.vbr_set.specs.reports.EntrySlots.{slots_listed}
use Rattle.vbr_set.proofs.entry_slots.without_keys.Given as goal

-- the slots so far and those that are left are all, and there is room for these
abbrev pub invariant-loop-slot : goal.invariant-loop-slot
invariant-loop-slot l = record {
  listed : l.slots.items ++ slots_listed (into_iter_items l.slot-iterator) ≡ slots_listed l.fn.keyed.items;
  room : length l.slots.items + length (into_iter_items l.slot-iterator) ≤ vec_capacity l.slots;
}
