use Rattle.vbr_handles.proofs.Names.{◌≡◌, ◌≤◌, ◌++◌, map, drop, length, AreFull, members_by}
use Rattle.std.specs.Vec.{vec_capacity}
use Rattle.vbr_handles.proofs.asking_all.take_all_out.Given as goal

-- those so far have given their members, the others have theirs, and all have their budgets
abbrev pub invariant-loop-i : goal.invariant-loop-i
invariant-loop-i g l = record {
  long : length l.handles ≡ length l.initial.handles;
  many : length l.members.items ≡ l.i;
  blocks : length l.blocks.items ≡ l.i;
  room : length l.initial.handles ≤ vec_capacity l.members;
  blocks_room : length l.initial.handles ≤ vec_capacity l.blocks;
  so_far : l.members.items ++ members_by g.H.HandleOf.member (drop l.i l.handles)
      ≡ members_by g.H.HandleOf.member l.initial.handles;
  full : AreFull g.H.HandleOf.member (drop l.i l.handles);
  steps : map g.H.HandleOf.steps l.handles ≡ map g.H.HandleOf.steps l.initial.handles;
  openings : map g.H.HandleOf.opening l.handles ≡ map g.H.HandleOf.opening l.initial.handles;
}
