use Rattle.vbr_slots.specs.steps.AtTables.{IsSameTable}
use Rattle.vbr_at_table.proofs.own_slots.Scanning.{Scanned}
use Rattle.vbr_at_table.proofs.taking.scan_others.Given as goal

abbrev pub invariant-loop-i : goal.invariant-loop-i
invariant-loop-i g l = IsSameTable l.initial.at l.at ×
    Scanned l.fn.stepper l.at.stepper.now l.fn.epoch l.fn.budget l.fn.used 1 l.i l.used
