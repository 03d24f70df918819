use Rattle.vbr_handles.proofs.Names.{◌≡◌, length}
use Rattle.vbr_handles.proofs.EachOnce.{Marks}
use Rattle.vbr_handles.proofs.each_once.has_twice_in.Given as goal

-- the handles are as they were, and those so far have a pass of this part just where it is marked
abbrev pub invariant-loop-i : goal.invariant-loop-i
invariant-loop-i g l = record {
  same : l.handles ≡ l.initial.handles;
  wide : length l.seen ≡ 4096;
  marks : Marks g.H.HandleOf.member l.initial.handles l.fn.part l.seen l.i;
}
