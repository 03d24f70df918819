use Rattle.std.proofs.Common.{◌≡◌, None}
use Rattle.vbr_slots.specs.views.Views.{IsOf}
use Rattle.vbr_table_tests.proofs.pools.make_takes.Given as goal

abbrev pub invariant-loop-take : goal.invariant-loop-take
invariant-loop-take g l = (IsOf l.a.trace l.slots × (l.a.hand ≡ None)) × (IsOf l.b.trace l.slots × (l.b.hand ≡ None))
