-- What is known of an entry whose node was found, whose place another took, or that wasn't in the map.
use Rattle.std.specs.Prelude.{◌≡◌, ℕ, true, List, [], ◌∷◌, ◌++◌, Some}
use Rattle.vbr_machine.specs.Start.{Start}
use Rattle.vbr_machine.specs.Accounts.{incarnations_after}
use Rattle.vbr_machine.specs.Records.{IsEntry}
use Rattle.vbr_machine.specs.Removals.{HasReplaced}
use Rattle.vbr_machine.specs.Runs.{Begins}
use Rattle.vbr_machine.specs.declared.event.Event.{Event}
use Rattle.vbr_slots.specs.steps.Calls.{Moment}
use Rattle.vbr_slots.specs.views.Views.{Trace}
use Rattle.vbr_words.specs.declared.place.At.TheVariants.{Slot}
use Rattle.vbr_at_table.specs.declared.held.Held.{Held}
use Rattle.vbr_list.specs.declared.entries.Entry.{Entry}
use Rattle.vbr_list.specs.declared.found.Found.{Found}

-- what was found is the node of this entry: in its slot, with its birth
pub record IsNodeOf (found : Found) (entry : Entry) : Type 0 where
  pub present : found.present ≡ true
  pub node : Held
  pub cur : found.cur ≡ Some node
  pub place : node.at ≡ Slot entry.slot
  pub birth : node.birth ≡ entry.birth

-- since a beginning of a run a pass put another node in the place of an entry's: right before that event the entry was in the map, in this slot, with this birth, key and value
pub record ReplacedEntry (start : Start) (before run : List Event) (pass slot birth key old : ℕ) : Type 0 where
  pub moment : List Event
  pub event : Event
  pub from : Begins before moment
  pub to : Begins (moment ++ event ∷ []) run
  pub node : ℕ
  pub entry : IsEntry start moment slot birth key node
  pub value : (incarnations_after start moment).value node ≡ old
  pub replaced : HasReplaced start moment (moment ++ event ∷ []) pass node

-- at a moment of what the pass did this entry wasn't in the map: the key was absent, or it had another node
pub record WasOther (p q : Trace) (key : ℕ) (entry : Entry) : Type 0 where
  pub moment : List Event
  pub within : Moment p q moment
  pub none : (node : ℕ) → ¬ (IsEntry p.start moment entry.slot entry.birth key node)
