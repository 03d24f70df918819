use Rattle.std.proofs.Common.{◌≡◌, ◌+◌, ◌*◌, ◌≤◌}
use Rattle.vbr_slots.proofs.slots.Slots.warm.Given as goal

-- one load for each key so far
abbrev pub invariant-heads : goal.invariant-heads
invariant-heads g l = record { few : l.count ≤ 16; loads : l.loads ≡ l.i }

-- one for each key, and up to two more for each so far
abbrev pub invariant-nodes : goal.invariant-nodes
invariant-nodes g l = record { few : l.count ≤ 16; least : l.count ≤ l.loads; most : l.loads ≤ l.count + 2 * l.i }

-- up to three for each key, and up to two more for each so far
abbrev pub invariant-next : goal.invariant-next
invariant-next g l = record { few : l.count ≤ 16; least : l.count ≤ l.loads; most : l.loads ≤ 3 * l.count + 2 * l.i }
