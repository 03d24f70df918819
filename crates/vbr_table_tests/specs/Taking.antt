-- What two threads that each take a slot leave.
use Rattle.std.specs.Prelude.{◌≡◌, ℕ, List, [], ◌∷◌, ◌++◌}
use Rattle.vbr_machine.specs.Start.{Start}
use Rattle.vbr_machine.specs.Runs.{IsRun, world_after}
use Rattle.vbr_machine.specs.declared.event.Event.{Event}
use Rattle.vbr_machine.specs.declared.event.Step.TheVariants.{TakeFlag}
use Rattle.vbr_slots.specs.views.Views.{event_of}
use Rattle.vbr_slots.specs.words.Words.{AreWordsOf}

-- the event stands in the run
abbrev pub HasEvent : List Event → Event → Type 0
HasEvent run e = (before : List Event) × (after : List Event) × (run ≡ (before ++ e ∷ []) ++ after)

-- the words are those of a run in which pass 0 reached for slot 0 and pass 1 for slot 1
pub record BothTook (start : Start) (words : List ℕ) : Type 0 where
  pub run : List Event
  pub is_run : IsRun start 2 run
  pub are : AreWordsOf start (world_after start run) words
  pub first : HasEvent run (event_of 0 (TakeFlag 0))
  pub second : HasEvent run (event_of 1 (TakeFlag 1))
