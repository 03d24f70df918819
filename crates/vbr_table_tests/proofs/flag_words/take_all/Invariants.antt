use Rattle.std.proofs.Common.{◌≡◌}
use Rattle.vbr_slots.specs.views.Views.{IsOf}
use Rattle.vbr_table_tests.proofs.flag_words.take_all.Given as goal

abbrev pub invariant-loop-slot : goal.invariant-loop-slot
invariant-loop-slot g l = IsOf l.pass.trace l.slots × (l.pass.hand ≡ l.fn.pass.hand)
