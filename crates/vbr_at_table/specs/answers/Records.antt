-- What the calls that publish a slot, mark a node, or answer by one, promise of records that a program keeps beside the slots.
use Rattle.std.specs.Prelude.{◌≡◌, ℕ, ◌≤◌, true, List, [], ◌∷◌, ◌++◌, Some}
use Rattle.vbr_words.specs.declared.place.At.TheVariants.{Slot}
use Rattle.vbr_machine.specs.History.{set_after, values_after}
use Rattle.vbr_machine.specs.Membership.{KeyAt}
use Rattle.vbr_machine.specs.Opened.{opening_keys, opening_payloads}
use Rattle.vbr_machine.specs.Records.{IsEntry}
use Rattle.vbr_machine.specs.Runs.{Begins, know_after, world_after}
use Rattle.vbr_machine.specs.declared.event.Event.{Event}
use Rattle.vbr_machine.specs.declared.event.Step.TheVariants.{Mark}
use Rattle.vbr_machine.specs.declared.knowledge.Holding.TheVariants.{InHand}
use Rattle.vbr_machine.specs.declared.knowledge.Unpublished.{Unpublished}
use Rattle.vbr_slots.specs.steps.Calls.{Moment}
use Rattle.vbr_slots.specs.views.Views.{Trace, event_of, knows}
use Rattle.vbr_at_table.specs.answers.Values.{ValueAt}
use Rattle.vbr_at_table.specs.declared.held.Held.{Held}

-- the pass published a slot by the last event that it has seen: right before it had the slot in hand, born at this epoch; and right after the slot is an entry, with this birth and this key
pub record PublishesSlot (p q : Trace) (slot birth key : ℕ) : Type 0 where
  pub moment : List Event
  pub event : Event
  pub from : Begins p.seen moment
  pub last : q.seen ≡ moment ++ event ∷ []
  pub known : Unpublished
  pub in_hand : (know_after q.start moment q.who).own slot ≡ Some (InHand known)
  pub birth_is : known.birth ≡ birth
  pub node : ℕ
  pub entry : IsEntry q.start q.seen slot birth key node

-- the pass marked the node in a slot by the last event that it has seen; right before, that was an entry, with this birth and this key
pub record MarksSlot (p q : Trace) (slot birth key : ℕ) : Type 0 where
  pub moment : List Event
  pub event : Event
  pub from : Begins p.seen moment
  pub last : q.seen ≡ moment ++ event ∷ []
  pub expected : ℕ
  pub mark : event ≡ event_of q.who (Mark slot expected)
  pub node : ℕ
  pub entry : IsEntry q.start moment slot birth key node

-- the same holds for each slot and key that a node which is held may have
pub record MarksHeld (p q : Trace) (held : Held) : Type 0 where
  pub marks : (s key : ℕ) → held.at ≡ Slot s → KeyAt (knows p) held.at key → MarksSlot p q s held.birth key

-- at a moment of what the pass did, the node that is held was an entry, in an epoch no less than the one in which it is held
pub record WasHeldEntry (p q : Trace) (held : Held) (s key : ℕ) : Type 0 where
  pub moment : List Event
  pub within : Moment p q moment
  pub node : ℕ
  pub entry : IsEntry p.start moment s held.birth key node
  pub epoch : held.epoch ≤ (world_after p.start moment).epoch

-- and at that moment the key was in the map, with this value
pub record WasHeldValue (p q : Trace) (held : Held) (s key value : ℕ) : Type 0 where
  pub was : WasHeldEntry p q held s key
  pub present : set_after (opening_keys p.start) (world_after p.start was.moment).calls key ≡ true
  pub stored : values_after (opening_payloads p.start) (world_after p.start was.moment).calls key ≡ Some value

-- the same holds for each slot and key that it may have, and for each value, if nodes have values
pub record ShowsEntry (p q : Trace) (held : Held) : Type 0 where
  pub shows : (s key : ℕ) → held.at ≡ Slot s → KeyAt (knows p) held.at key → WasHeldEntry p q held s key
  pub stores : p.start.shape.values ≡ true → (s key value : ℕ) → held.at ≡ Slot s → KeyAt (knows p) held.at key → ValueAt (knows p) held.at value → WasHeldValue p q held s key value
