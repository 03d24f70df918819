use Rattle.vbr_handles.proofs.Names.{◌≡◌, map, length, AllWithin}
use Rattle.vbr_handles.proofs.openings.set_openings.Given as goal

-- there are as many handles with their members and their budgets, and those so far have the number
abbrev pub invariant-loop-i : goal.invariant-loop-i
invariant-loop-i g l = record {
  long : length l.handles ≡ length l.initial.handles;
  numbered : AllWithin (λ (h : g.row.H.Denot). g.H.HandleOf.opening h ≡ l.fn.number) l.handles 0 l.i;
  members : map g.H.HandleOf.member l.handles ≡ map g.H.HandleOf.member l.initial.handles;
  steps : map g.H.HandleOf.steps l.handles ≡ map g.H.HandleOf.steps l.initial.handles;
}
