use Rattle.std.proofs.Common.{◌≡◌}
use Rattle.vbr_set_tests.proofs.seventy_slots.turn.Given as goal

abbrev pub invariant-loop-i : goal.invariant-loop-i
invariant-loop-i l = l.caller.set ≡ l.fn.caller.set
