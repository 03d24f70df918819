use Rattle.vbr_handles.proofs.Names.{◌≡◌, map, length, None, AllWithin}
use Rattle.vbr_handles.proofs.closing_all.abandon_all.Given as goal

-- there are as many handles with their budgets, and those so far are empty
abbrev pub invariant-loop-i : goal.invariant-loop-i
invariant-loop-i g l = record {
  long : length l.handles ≡ length l.initial.handles;
  empty : AllWithin (λ (h : g.row.H.Denot). g.H.HandleOf.member h ≡ None) l.handles 0 l.i;
  steps : map g.H.HandleOf.steps l.handles ≡ map g.H.HandleOf.steps l.initial.handles;
  openings : map g.H.HandleOf.opening l.handles ≡ map g.H.HandleOf.opening l.initial.handles;
}
