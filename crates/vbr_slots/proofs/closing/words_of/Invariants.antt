use Rattle.std.proofs.Common.{◌≡◌, ◌≤◌, take}
use Rattle.std.specs.Vec.{vec_capacity}
use Rattle.std.specs.Mem.Slots.{slots_items, slots_len}
use Rattle.vbr_slots.proofs.closing.words_of.Given as goal

abbrev pub invariant-loop-i : goal.invariant-loop-i
invariant-loop-i l =
    (l.words.items ≡ take l.i (slots_items l.closed.words)) × (slots_len l.closed.words ≤ vec_capacity l.words)
