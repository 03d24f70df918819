use Rattle.std.proofs.Common.{◌≡◌, ◌≤◌, ◌<◌, ℕ, length, slice_index}
use Rattle.std.specs.Vec.{vec_capacity}
use Rattle.vbr_words.specs.Places.{words_in}
use Rattle.vbr_slots.specs.runs.Snapshots.{IsWordAt}
use Rattle.vbr_slots.proofs.slots.Slots.read_all_as.Given as goal

-- so many words were read, each after what the witnesses have seen, and the seat is as it was
abbrev pub invariant-loop-index : goal.invariant-loop-index
invariant-loop-index g l = record {
  table : l.seat.table_id ≡ l.fn.seat.table_id;
  me : l.seat.me ≡ l.fn.seat.me;
  count : length l.words.items ≡ l.index;
  room : words_in l.self.start.shape ≤ vec_capacity l.words;
  each : (k : ℕ) → k < length l.words.items →
      IsWordAt record { start = l.self.start; passes = l.self.passes } l.fn.seat.me.0 k (slice_index l.words.items k);
}
