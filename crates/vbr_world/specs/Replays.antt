-- What a replay of events leads to, or where and why it stops.
use Rattle.std.specs.Prelude.{◌≡◌, ℕ, ◌<◌, List, length, ◌⊎◌, take, slice_get, Some}
use Rattle.vbr_machine.specs.Start.{Start}
use Rattle.vbr_machine.specs.declared.event.Event.{Event}
use Rattle.vbr_machine.specs.declared.event.CoreRefusal.{CoreRefusal}
use Rattle.vbr_machine.specs.declared.event.CoreRefusal.TheVariants.{NoSuchPass, NoMemory}
use Rattle.vbr_machine.specs.Runs.{IsRun, Refuses, world_after}
use Rattle.vbr_machine.specs.Safety.{IsSafe}
use Rattle.vbr_world.specs.Growth.{NeedsMemory}
use Rattle.vbr_world.specs.WorldInLists.{KeptWorld, world_of}

-- the events are a run, which is safe, and the world is the one after it, with so many passes
pub record IsReplayed (opened : Start) (count : ℕ) (events : List Event) (kept : KeptWorld) : Type 0 where
  pub run : IsRun opened count events
  pub safe : IsSafe opened events
  pub world : world_of kept ≡ world_after opened events
  pub start : kept.start ≡ opened
  pub passes : length kept.passes ≡ count

-- the event at an index is refused, for this, after those before it, which are a run; memory lacks only if it makes a list longer
pub record StopsIn (start : Start) (passes : ℕ) (events : List Event) (index : ℕ) (refusal : CoreRefusal) : Type 0 where
  pub event : Event
  pub here : slice_get events index ≡ Some event
  pub run : IsRun start passes (take index events)
  pub refused : Refuses start passes (world_after start (take index events)) event refusal
  pub grows : refusal ≡ NoMemory → NeedsMemory start (world_after start (take index events)) event

-- where and why a replay stops: no such number of passes or no memory at the opening, or the first event that is refused
abbrev pub StopsAt : Start → ℕ → List Event → ℕ → CoreRefusal → Type 0
StopsAt start passes events index refusal =
    ((index ≡ 0) × (refusal ≡ NoSuchPass) × ((passes ≡ 0) ⊎ (64 < passes)))
    ⊎ (((index ≡ 0) × (refusal ≡ NoMemory))
    ⊎ StopsIn start passes events index refusal)
