use Rattle.std.proofs.Common.{◌≡◌, None}
use Rattle.vbr_slots.specs.views.Views.{IsOf}
use Rattle.vbr_table_tests.proofs.standing_still.make_rounds.Given as goal

abbrev pub invariant-loop-value : goal.invariant-loop-value
invariant-loop-value g l = IsOf l.pass.trace l.slots × (l.pass.hand ≡ None)
