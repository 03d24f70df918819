use Rattle.std.proofs.Common.{◌-◌}
use Rattle.vbr_slots.specs.steps.AtTables.{IsSameTable}
use Rattle.vbr_at_table.proofs.flags.Winning.{Winning}
use Rattle.vbr_at_table.proofs.taking.win_shared.Given as goal

-- Each probe was a step within the budget, and found its flag and those behind it in its word not set:
-- so each slot before the next one, on the way round, was outside the shared pool at some moment;
-- and the own pool and the hand are as they were.
abbrev pub invariant-loop-slot : goal.invariant-loop-slot
invariant-loop-slot g l =
    IsSameTable l.initial.at l.at × Winning l.fn.stepper l.at.stepper.now l.fn.budget l.probes l.start l.slot l.end

abbrev pub decreases-loop-slot : goal.decreases-loop-slot
decreases-loop-slot g l = l.budget - l.probes
