use Rattle.vbr_slots.specs.steps.AtTables.{IsSameTable}
use Rattle.vbr_at_table.proofs.own_slots.GivingSlotsBack.{Giving}
use Rattle.vbr_at_table.proofs.giving_slots_back.give_slots_back.Given as goal

abbrev pub invariant-loop : goal.invariant-loop
invariant-loop g l = IsSameTable l.fn.at l.at × Giving l.fn.at.stepper.now l.at.stepper.now l.counter
