use Rattle.std.proofs.Common.{◌≡◌, None}
use Rattle.vbr_slots.specs.views.Views.{IsOf}
use Rattle.vbr_table_tests.proofs.rows.play.Given as goal

abbrev pub invariant-loop-row : goal.invariant-loop-row
invariant-loop-row g l = (IsOf l.a.trace l.slots × (l.a.hand ≡ None)) × (IsOf l.b.trace l.slots × (l.b.hand ≡ None))
