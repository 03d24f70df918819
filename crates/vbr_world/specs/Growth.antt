-- Which steps a world needs memory for: those that make one of its lists longer.
use Rattle.std.specs.Prelude.{◌≡◌, ◌<◌, ◌⊎◌, length}
use Rattle.vbr_machine.specs.Start.{Start}
use Rattle.vbr_machine.specs.Knowledge.{Know}
use Rattle.vbr_machine.specs.Machine.{World, after}
use Rattle.vbr_machine.specs.declared.event.Event.{Event}
use Rattle.vbr_world.specs.WorldInLists.{KeptWorld, world_of}

-- more reads are pending than before, or more are checked
abbrev pub ReadsMore : Know → Know → Type 0
ReadsMore old new = (length old.pending < length new.pending) ⊎ (length old.checked < length new.checked)

-- an event needs memory: its pass has then more reads, or there are more calls
abbrev pub NeedsMemory : Start → World → Event → Type 0
NeedsMemory start w event =
    ReadsMore (w.know event.pass) ((after start w event.pass event.step).know event.pass)
    ⊎ (length w.calls < length (after start w event.pass event.step).calls)

-- want of memory refuses an event: nothing changes, and a list would have got longer
pub record RefusesMemory (old new : KeptWorld) (event : Event) : Type 0 where
  pub stays : new ≡ old
  pub needs : NeedsMemory old.start (world_of old) event
