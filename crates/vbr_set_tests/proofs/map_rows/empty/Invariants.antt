use Rattle.std.proofs.Common.{◌≡◌}
use Rattle.vbr_set_tests.proofs.map_rows.empty.Given as goal

abbrev pub invariant-loop-key : goal.invariant-loop-key
invariant-loop-key g l = l.caller.set ≡ l.fn.caller.set
