use Rattle.std.proofs.Common.{◌-◌}
use Rattle.vbr_slots.specs.steps.AtTables.{IsSameTable}
use Rattle.vbr_at_table.proofs.flags.Reserves.{Reserving}
use Rattle.vbr_at_table.proofs.reserving.reserve_from.Given as goal

abbrev pub invariant-loop-slot : goal.invariant-loop-slot
invariant-loop-slot g l = IsSameTable l.fn.at l.at ×
    Reserving l.fn.at.stepper.now l.at.stepper.now l.fn.from l.slot l.fn.to l.fn.most l.fn.probes l.used l.shown

abbrev pub decreases-loop-slot : goal.decreases-loop-slot
decreases-loop-slot g l = l.fn.to - l.slot
