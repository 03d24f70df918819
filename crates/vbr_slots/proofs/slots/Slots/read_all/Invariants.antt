use Rattle.vbr_machine.specs.declared.event.Step.TheVariants.{ReadEpoch}
use Rattle.vbr_slots.specs.views.Views.{event_of}
use Rattle.vbr_slots.proofs.slots.Slots.read_all.Given as goal

abbrev pub ghosts-read_all_as : goal.ghosts-read_all_as
ghosts-read_all_as g a =
    record { event = event_of 0 ReadEpoch; opening = record { start = a.self.now.start; passes = a.self.now.passes } }
