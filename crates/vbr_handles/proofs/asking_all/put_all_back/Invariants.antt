use Rattle.vbr_handles.proofs.Names.{◌≡◌, ◌+◌, ◌++◌, map, take, length, Some, into_iter_items}
use Rattle.vbr_handles.proofs.asking_all.put_all_back.Given as goal

-- the handles so far have the members so far, there is a member and a block for each that is left, and all have
-- their budgets
abbrev pub invariant-loop-i : goal.invariant-loop-i
invariant-loop-i g l = record {
  long : length l.handles ≡ length l.initial.handles;
  left : l.i + length (into_iter_items l.members) ≡ length l.handles;
  blocks : l.i + length (into_iter_items l.blocks) ≡ length l.handles;
  so_far : take l.i (map g.H.HandleOf.member l.handles) ++ map Some (into_iter_items l.members)
      ≡ map Some (into_iter_items l.initial.members);
  steps : map g.H.HandleOf.steps l.handles ≡ map g.H.HandleOf.steps l.initial.handles;
  openings : map g.H.HandleOf.opening l.handles ≡ map g.H.HandleOf.opening l.initial.handles;
}
