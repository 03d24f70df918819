use Rattle.vbr_slots.specs.steps.Stepping.{opening_of}
use Rattle.vbr_slots.specs.views.Views.{event_of}
use Rattle.vbr_slots.proofs.at_table.AtTable.peek_birth.Given as goal

abbrev pub ghosts-load : goal.ghosts-load
ghosts-load g a = record { event = event_of a.stepper.now.trace.who a.step; opening = opening_of a.self.now }
