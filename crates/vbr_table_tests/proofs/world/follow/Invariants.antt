-- The world keeps its shape.
use Rattle.std.proofs.Common.{◌≡◌}
use Rattle.vbr_table_tests.proofs.world.follow.Given as goal

abbrev pub invariant-loop-row : goal.invariant-loop-row
invariant-loop-row g l = l.world.start.shape ≡ l.shape
