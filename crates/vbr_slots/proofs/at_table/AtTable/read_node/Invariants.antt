use Rattle.vbr_machine.specs.declared.event.Step.TheVariants.{ReadEpoch}
use Rattle.vbr_slots.specs.steps.Stepping.{opening_of}
use Rattle.vbr_slots.specs.views.Views.{event_of}
use Rattle.vbr_slots.proofs.at_table.AtTable.read_node.Given as goal

abbrev pub ghosts-load_word : goal.ghosts-load_word
ghosts-load_word g a = record { event = event_of a.stepper.now.trace.who a.step; opening = opening_of a.self.now }

abbrev pub ghosts-load_link_at : goal.ghosts-load_link_at
ghosts-load_link_at g a = record { event = event_of a.stepper.now.trace.who a.step; opening = opening_of a.self.now }

abbrev pub ghosts-read_epoch_as : goal.ghosts-read_epoch_as
ghosts-read_epoch_as g a = record { event = event_of a.runner.now.who ReadEpoch; opening = opening_of a.self.now }
