-- The passes stand before the rows that are left.
use Rattle.std.proofs.Common.{length}
use Rattle.vbr_table_tests.specs.Following.{BothFollow}
use Rattle.vbr_table_tests.proofs.listed_calls.follow.Given as goal

abbrev pub invariant-loop-row : goal.invariant-loop-row
invariant-loop-row g l = BothFollow l.slots l.a.trace l.b.trace l.rows l.words

abbrev pub decreases-loop-row : goal.decreases-loop-row
decreases-loop-row g l = length l.rows
