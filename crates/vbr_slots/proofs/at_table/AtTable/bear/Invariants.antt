use Rattle.vbr_slots.specs.steps.Stepping.{opening_of}
use Rattle.vbr_slots.specs.views.Views.{event_of}
use Rattle.vbr_slots.proofs.at_table.AtTable.bear.Given as goal

abbrev pub ghosts-store : goal.ghosts-store
ghosts-store g a = record { event = event_of a.runner.now.who a.step; opening = opening_of a.self.now }
