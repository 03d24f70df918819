use Rattle.vbr_handles.proofs.Names.{◌≡◌, ℕ, ◌<◌, slice_index_or, None}
use Rattle.vbr_handles.proofs.opening.are_empty.Given as goal

-- the handles are as they were, and those so far are empty
abbrev pub invariant-loop-i : goal.invariant-loop-i
invariant-loop-i g l = record {
  same : l.handles ≡ l.initial.handles;
  empty : (k : ℕ) (d : g.row.H.Denot) → k < l.i → g.H.HandleOf.member (slice_index_or l.initial.handles k d) ≡ None;
}
