-- What was pushed, with what the rows that are left become, is what all become.
use Rattle.std.proofs.Common.{◌≡◌, ◌++◌, length}
use Rattle.vbr_event_lists.specs.Valued.{with_values}
use Rattle.vbr_event_lists.proofs.values.with_values.Given as goal

abbrev pub invariant-loop-row : goal.invariant-loop-row
invariant-loop-row l = l.valued.items ++ with_values l.rows ≡ with_values l.fn.rows

abbrev pub decreases-loop-row : goal.decreases-loop-row
decreases-loop-row l = length l.rows
