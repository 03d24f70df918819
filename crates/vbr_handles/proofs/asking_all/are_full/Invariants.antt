use Rattle.vbr_handles.proofs.Names.{◌≡◌, ℕ, ◌<◌, slice_index_or, IsSome}
use Rattle.vbr_handles.proofs.asking_all.are_full.Given as goal

-- the handles are as they were, and those so far are full
abbrev pub invariant-loop-i : goal.invariant-loop-i
invariant-loop-i g l = record {
  same : l.handles ≡ l.initial.handles;
  full : (k : ℕ) (d : g.row.H.Denot) → k < l.i → IsSome (g.H.HandleOf.member (slice_index_or l.initial.handles k d));
}
