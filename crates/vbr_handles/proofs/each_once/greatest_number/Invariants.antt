use Rattle.vbr_handles.proofs.Names.{◌≡◌, ℕ, ◌<◌, take, borne}
use Rattle.vbr_handles.proofs.each_once.greatest_number.Given as goal

-- the handles are as they were, and no number above the greatest is that of one so far
abbrev pub invariant-loop-i : goal.invariant-loop-i
invariant-loop-i g l = record {
  same : l.handles ≡ l.initial.handles;
  none : (who : ℕ) → l.greatest < who → borne g.H.HandleOf.member (take l.i l.initial.handles) who ≡ 0;
}
