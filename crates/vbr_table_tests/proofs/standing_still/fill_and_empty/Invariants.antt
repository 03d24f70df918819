use Rattle.std.proofs.Common.{◌≡◌, None}
use Rattle.vbr_slots.specs.views.Views.{IsOf}
use Rattle.vbr_table_tests.proofs.standing_still.fill_and_empty.Given as goal

abbrev pub invariant-loop-key : goal.invariant-loop-key
invariant-loop-key g l = IsOf l.pass.trace l.slots × (l.pass.hand ≡ None)

abbrev pub invariant-loop-key-2 : goal.invariant-loop-key-2
invariant-loop-key-2 g l = IsOf l.pass.trace l.slots × (l.pass.hand ≡ None)
