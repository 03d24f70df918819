use Rattle.std.proofs.Common.{◌≡◌, None}
use Rattle.vbr_slots.specs.views.Views.{IsOf}
use Rattle.vbr_table_tests.proofs.lost_exchanges.make_all.Given as goal

abbrev pub invariant-loop-budget : goal.invariant-loop-budget
invariant-loop-budget g l = IsOf l.pass.trace l.slots × (l.pass.hand ≡ None)
