use Rattle.vbr_slots.specs.steps.Stepping.{opening_of}
use Rattle.vbr_slots.specs.views.Views.{event_of}
use Rattle.vbr_slots.proofs.at_table.AtTable.take_flag.Given as goal

abbrev pub ghosts-fetch_and : goal.ghosts-fetch_and
ghosts-fetch_and g a = record { event = event_of a.runner.now.who a.step; opening = opening_of a.self.now }
