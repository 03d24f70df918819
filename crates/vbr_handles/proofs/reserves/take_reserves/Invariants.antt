use Rattle.vbr_handles.proofs.Names.{StartsWithReserve}
use Rattle.vbr_handles.proofs.OpeningReserves.{SoFar}
use Rattle.vbr_handles.proofs.reserves.take_reserves.Given as goal

-- the members so far have taken their reserves, and the others are as they were
abbrev pub invariant-loop-member : goal.invariant-loop-member
invariant-loop-member g l = SoFar StartsWithReserve l.member-index l.fn.members l.members
