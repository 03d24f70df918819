use Rattle.vbr_handles.proofs.Names.{◌≡◌}
use Rattle.vbr_handles.proofs.asking_all.are_beside.Given as goal

-- the handles are as they were
abbrev pub invariant-loop-i : goal.invariant-loop-i
invariant-loop-i g l = record {
  first : l.first ≡ l.initial.first;
  others : l.others ≡ l.initial.others;
}
