-- What a step of a kept world returns: one record for each outcome.
use Rattle.std.specs.Prelude.{◌≡◌, ℕ, length}
use Rattle.vbr_machine.specs.Learning.{effect_of}
use Rattle.vbr_machine.specs.Machine as machine
use Rattle.vbr_machine.specs.Runs.{IsAccepted, Refuses}
use Rattle.vbr_machine.specs.declared.event.Event.{Event}
use Rattle.vbr_machine.specs.declared.event.Step.{Step}
use Rattle.vbr_machine.specs.declared.event.Effect.{Effect}
use Rattle.vbr_machine.specs.declared.event.CoreRefusal.{CoreRefusal}
use Rattle.vbr_machine.specs.declared.event.CoreRefusal.TheVariants.{NoMemory}
use Rattle.vbr_world.specs.Growth.{NeedsMemory}
use Rattle.vbr_world.specs.WorldInLists.{KeptWorld, world_of}

-- the word that a step finds
abbrev pub found_in : KeptWorld → Step → ℕ
found_in kept step = machine.found kept.start (world_of kept) step

-- an event is accepted
abbrev pub IsAcceptedIn : KeptWorld → Event → Type 0
IsAcceptedIn kept event = IsAccepted kept.start (length kept.passes) (world_of kept) event

-- an event is refused, for this
abbrev pub IsRefusedIn : KeptWorld → Event → CoreRefusal → Type 0
IsRefusedIn kept event refusal = Refuses kept.start (length kept.passes) (world_of kept) event refusal

-- the start and the number of passes stay
pub record KeepsStart (old new : KeptWorld) : Type 0 where
  pub start : new.start ≡ old.start
  pub passes : length new.passes ≡ length old.passes

-- the event was accepted, with this effect, and the world is the one after it
pub record IsMade (old new : KeptWorld) (event : Event) (answer : Effect) : Type 0 where
  pub accepted : IsAcceptedIn old event
  pub effect : answer ≡ effect_of event.step (found_in old event.step)
  pub after : world_of new ≡ machine.after old.start (world_of old) event.pass event.step

-- the event was refused, for this, and nothing has changed; memory lacks only if the event makes a list longer
pub record RefusesEvent (old new : KeptWorld) (event : Event) (why : CoreRefusal) : Type 0 where
  pub refused : IsRefusedIn old event why
  pub unchanged : new ≡ old
  pub grows : why ≡ NoMemory → NeedsMemory old.start (world_of old) event
