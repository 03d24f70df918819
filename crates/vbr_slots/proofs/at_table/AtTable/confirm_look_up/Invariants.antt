use Rattle.vbr_slots.specs.steps.Stepping.{opening_of}
use Rattle.vbr_slots.specs.views.Views.{event_of}
use Rattle.vbr_slots.proofs.at_table.AtTable.confirm_look_up.Given as goal

abbrev pub ghosts-load_at : goal.ghosts-load_at
ghosts-load_at g a = record { event = event_of a.stepper.now.trace.who a.step; opening = opening_of a.self.now }
