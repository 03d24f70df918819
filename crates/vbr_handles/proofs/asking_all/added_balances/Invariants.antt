use Rattle.vbr_handles.proofs.Names.{◌≡◌, drop, added_balances, members_by}
use Rattle.vbr_handles.proofs.asking_all.added_balances.Given as goal

-- the handles are as they were, and the balances of those from here on are added up
abbrev pub invariant-loop-i : goal.invariant-loop-i
invariant-loop-i g l = record {
  same : l.handles ≡ l.initial.handles;
  sum : l.sum ≡ added_balances (members_by g.H.HandleOf.member (drop l.i l.initial.handles));
}
