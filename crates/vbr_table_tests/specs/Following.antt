-- A running table of two passes on which a worked list of events is made: what a row asks, and where the passes stand in the list.
use Rattle.std.specs.Prelude.{◌≡◌, ℕ, List, Bool, None}
use Rattle.vbr_machine.specs.Acceptance.{Accepts}
use Rattle.vbr_machine.specs.Learning.{effect_of, learn}
use Rattle.vbr_machine.specs.Machine.{World, opening}
use Rattle.vbr_machine.specs.Start.{empty_start}
use Rattle.vbr_machine.specs.declared.event.Effect.{Effect}
use Rattle.vbr_machine.specs.declared.event.Step.{Step}
use Rattle.vbr_slots.specs.views.Views.{Trace, TableView, IsOf, knows}
use Rattle.vbr_event_lists.specs.Worked.{AreWorked, IsNamedWord}

-- a pass of the table with this number, which knows what it knows in the world
pub record KnowsAsInWorld (t : TableView) (who : ℕ) (p : Trace) (w : World) : Type 0 where
  pub own : IsOf p t
  pub who_is : p.who ≡ who
  pub knows_it : knows p ≡ w.know who

-- two passes know what they know in a world from which on the rows are worked
pub record BothFollow (t : TableView) (a b : Trace) (rows : List (ℕ × Step × Effect)) (words : List ℕ) : Type 0 where
  pub world : World
  pub first : KnowsAsInWorld t 0 a world
  pub second : KnowsAsInWorld t 1 b world
  pub worked : AreWorked t.start world rows words

-- the pass may make the step at the table, with this word
pub record May (t : TableView) (p : Trace) (step : Step) (word : ℕ) : Type 0 where
  pub own : IsOf p t
  pub accepted : Accepts t.start (knows p) step
  pub new : IsNamedWord (knows p) step word

-- what a pass learned from a step that had this effect; a slot that it took had the stamp 0
pub record Learned (step : Step) (p q : Trace) (effect : Effect) : Type 0 where
  pub found : ℕ
  pub answers : effect ≡ effect_of step found
  pub learned : knows q ≡ learn step found 0 (knows p)
  pub same : (q.table ≡ p.table) × (q.start ≡ p.start) × (q.passes ≡ p.passes) × (q.who ≡ p.who)

-- the rows are worked, with the words, from the opening of an empty table on, of so many slots and one bucket, up to the last epoch, whose nodes have values or not
abbrev pub IsWorkedOn : ℕ → ℕ → Bool → List (ℕ × Step × Effect) → List ℕ → Type 0
IsWorkedOn slots last_epoch values rows words =
    let start = empty_start (record {
      slots = slots;
      buckets = 1;
      spread = None;
      last_epoch = last_epoch;
      values = values;
    }) in
    AreWorked start (opening start) rows words
