use Rattle.std.proofs.Common.{◌≤◌, length}
use Rattle.std.specs.Vec.{vec_capacity}
use Rattle.vbr_slots.proofs.runs.Halting.{IsHalting}
use Rattle.vbr_slots.proofs.slots.Slots.snapshot.Given as goal

-- the passes so far are as they were, the others are halted, and there is room for them
abbrev pub invariant-loop-kept : goal.invariant-loop-kept
invariant-loop-kept g l = record {
  halting : IsHalting l.self l.fn.passes.items l.passes.items l.joined l.halted.items;
  room : length l.fn.passes.items ≤ vec_capacity l.passes;
}

abbrev pub decreases-loop-kept : goal.decreases-loop-kept
decreases-loop-kept g l = length l.halted.items
