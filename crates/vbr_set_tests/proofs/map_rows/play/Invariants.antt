use Rattle.std.proofs.Common.{◌≡◌}
use Rattle.vbr_set_tests.proofs.map_rows.play.Given as goal

abbrev pub invariant-loop-row : goal.invariant-loop-row
invariant-loop-row g l = (l.a.set ≡ l.fn.a.set) × (l.b.set ≡ l.fn.b.set)
