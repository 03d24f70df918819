use Rattle.vbr_handles.proofs.Names.{ℕ, ◌+◌, ◌<◌, slice_index_or}
use Rattle.vbr_handles.proofs.items.ascend.Given as goal

-- the keys so far ascend
abbrev pub invariant-loop-i : goal.invariant-loop-i
invariant-loop-i g l = (k : ℕ) (d : g.row.I.Denot) → k + 1 < l.i →
    g.I.Listed.key (slice_index_or l.items k d) < g.I.Listed.key (slice_index_or l.items (k + 1) d)
