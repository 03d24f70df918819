use Rattle.vbr_handles.proofs.Names.{◌≡◌, drop, map}
use Rattle.vbr_handles.specs.Openings.{greatest_of}
use Rattle.vbr_handles.proofs.openings.greatest_opening.Given as goal

-- the handles are as they were, and the number is the greatest of those from here on
abbrev pub invariant-loop-i : goal.invariant-loop-i
invariant-loop-i g l = record {
  same : l.handles ≡ l.initial.handles;
  greatest : l.greatest ≡ greatest_of (map g.H.HandleOf.opening (drop l.i l.initial.handles));
}
