use Rattle.vbr_handles.proofs.Names.{◌≡◌, ◌+◌, ◌++◌, map, take, length, into_iter_items}
use Rattle.vbr_handles.proofs.opening.fill.Given as goal

-- the handles so far have the members of the owners so far, there is an owner for each that is left, and all have
-- their budgets
abbrev pub invariant-loop-i : goal.invariant-loop-i
invariant-loop-i g l = record {
  long : length l.handles ≡ length l.initial.handles;
  left : l.i + length (into_iter_items l.owners) ≡ length l.handles;
  so_far : take l.i (map g.H.HandleOf.member l.handles) ++ map (λ o. o.member) (into_iter_items l.owners)
      ≡ map (λ o. o.member) (into_iter_items l.initial.owners);
  steps : map g.H.HandleOf.steps l.handles ≡ map g.H.HandleOf.steps l.initial.handles;
  openings : map g.H.HandleOf.opening l.handles ≡ map g.H.HandleOf.opening l.initial.handles;
}
