use Rattle.vbr_handles.proofs.Names.{◌≡◌, ℕ, ◌/◌, ◌<◌, ◌≤◌, borne}
use Rattle.vbr_handles.proofs.each_once.has_twice.Given as goal

-- the handles are as they were, and no pass of the parts so far comes twice
abbrev pub invariant-loop-part : goal.invariant-loop-part
invariant-loop-part g l = record {
  same : l.handles ≡ l.initial.handles;
  once : (who : ℕ) → who / 4096 < l.part → borne g.H.HandleOf.member l.initial.handles who ≤ 1;
}
