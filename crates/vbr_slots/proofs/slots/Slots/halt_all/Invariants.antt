use Rattle.std.proofs.Common.{◌≡◌, ◌+◌, ◌≤◌, length}
use Rattle.std.specs.Vec.{vec_capacity}
use Rattle.vbr_slots.proofs.runs.Halting.{IsHalting}
use Rattle.vbr_slots.proofs.slots.Slots.halt_all.Given as goal

-- the passes so far are halted, and there is room for what is kept of the others
abbrev pub invariant-loop-pass : goal.invariant-loop-pass
invariant-loop-pass g l = record {
  halting : IsHalting l.self l.fn.passes.items l.passes.items l.joined l.halted.items;
  room : length l.passes.items + length l.halted.items ≤ vec_capacity l.halted;
  capacity : vec_capacity l.passes ≡ vec_capacity l.fn.passes;
}

abbrev pub decreases-loop-pass : goal.decreases-loop-pass
decreases-loop-pass g l = length l.passes.items
