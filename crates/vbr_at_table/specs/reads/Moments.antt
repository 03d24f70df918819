-- What was so at a moment of a call.
use Rattle.std.specs.Prelude.{◌≡◌, ℕ, Bool, true, List, [], ◌∷◌, ◌++◌, Option, Some, None}
use Rattle.vbr_words.specs.Words.{link_of}
use Rattle.vbr_words.specs.declared.place.At.{At}
use Rattle.vbr_words.specs.declared.place.At.TheVariants.{Slot}
use Rattle.vbr_machine.specs.Opened.{opening_keys, opening_payloads}
use Rattle.vbr_machine.specs.History.{set_after, values_after}
use Rattle.vbr_machine.specs.Machine.{link_at, found}
use Rattle.vbr_machine.specs.Membership.{IsHeldPlace}
use Rattle.vbr_machine.specs.Runs.{Begins, world_after, know_after}
use Rattle.vbr_machine.specs.declared.event.Event.{Event}
use Rattle.vbr_machine.specs.declared.event.Step.TheVariants.{ReadEpoch, LoadLink}
use Rattle.vbr_slots.specs.steps.Calls.{Moment}
use Rattle.vbr_slots.specs.views.Views.{Trace, knows, event_of}
use Rattle.vbr_at_table.specs.reads.Held.{IsHeld, Names}
use Rattle.vbr_at_table.specs.declared.held.Held.{Held}

-- at a moment of what the pass did, it held the place, in the epoch of what is held, and the link stood there
pub record Stood (p q : Trace) (held : Held) : Type 0 where
  pub moment : List Event
  pub within : Moment p q moment
  pub epoch : (know_after p.start moment p.who).epoch ≡ held.epoch
  pub place : IsHeldPlace (know_after p.start moment p.who) held.at
  pub shown : link_at (world_after p.start moment) held.at ≡ link_of held.word

-- it was read by what the pass did: it is held, and its link stood there at a moment
pub record IsRead (p q : Trace) (held : Held) : Type 0 where
  pub known : IsHeld (knows q) held
  pub stood : Stood p q held

-- what a link names was read, if it names a slot
abbrev pub IsNext : Trace → Trace → Held → Option Held → Type 0
IsNext p q held None = (link_of held.word).slot ≡ None
IsNext p q held (Some next) = (s : ℕ) × Names held s × (next.at ≡ Slot s) × IsRead p q next

-- at a moment of what the pass did, this was the epoch, and the pass read it there
pub record IsEpochRead (p q : Trace) (epoch : ℕ) : Type 0 where
  pub moment : List Event
  pub within : Moment p q moment
  pub was : (world_after p.start moment).epoch ≡ epoch
  pub read : Begins (moment ++ event_of p.who ReadEpoch ∷ []) q.seen

-- at a moment of what the pass did, the slot showed this birth
pub record ShowsBirth (p q : Trace) (slot birth : ℕ) : Type 0 where
  pub moment : List Event
  pub within : Moment p q moment
  pub was : (world_after p.start moment).birth slot ≡ birth

-- at a moment of what the pass did, this link word stood at the place
pub record WasFound (p q : Trace) (place : At) (word : ℕ) : Type 0 where
  pub moment : List Event
  pub within : Moment p q moment
  pub found : found p.start (world_after p.start moment) (LoadLink place) ≡ word

-- at a moment of what the pass did, the key was in the set, or wasn't
pub record WasSo (p q : Trace) (key : ℕ) (present : Bool) : Type 0 where
  pub moment : List Event
  pub within : Moment p q moment
  pub was : set_after (opening_keys p.start) (world_after p.start moment).calls key ≡ present

-- at a moment of what the pass did, the key was in the map, with this value
pub record WasEntry (p q : Trace) (key value : ℕ) : Type 0 where
  pub moment : List Event
  pub within : Moment p q moment
  pub was : set_after (opening_keys p.start) (world_after p.start moment).calls key ≡ true
  pub stored : values_after (opening_payloads p.start) (world_after p.start moment).calls key ≡ Some value
