use Rattle.std.proofs.Common.{◌≡◌, [], ◌++◌}
use Rattle.std.specs.Vec.Iter.{into_iter_items}
use Rattle.vbr_slots.proofs.runs.Closings.{witnesses_of}
use Rattle.vbr_slots.proofs.slots.Slots.close.Given as goal

abbrev pub invariant-loop-pass : goal.invariant-loop-pass
invariant-loop-pass g l = (l.seat.table_id ≡ l.table.shared.table_id) × (l.seat.me ≡ (witnesses_of l.yielded, [])) ×
    (l.yielded ++ into_iter_items l.pass-iterator ≡ l.fn.passes.items)
