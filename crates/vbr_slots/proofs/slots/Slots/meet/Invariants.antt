use Rattle.vbr_machine.specs.declared.event.Step.TheVariants.{ReadEpoch}
use Rattle.vbr_slots.specs.steps.Stepping.{opening_of}
use Rattle.vbr_slots.specs.views.Views.{event_of}
use Rattle.vbr_slots.proofs.slots.Slots.meet.Given as goal

abbrev pub ghosts-meet_as : goal.ghosts-meet_as
ghosts-meet_as g a = record { event = event_of a.runner.now.who ReadEpoch; opening = opening_of a.self.now }
