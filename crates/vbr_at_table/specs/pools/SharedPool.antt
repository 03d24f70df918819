-- Slots in the shared pool and outside it, during a call.
use Rattle.std.specs.Prelude.{◌≡◌, ◌≢◌, ℕ, ◌*◌, ◌<◌, ◌≤◌, ◌⊎◌, List, [], ◌∷◌, ◌++◌}
use Rattle.vbr_words.specs.Flags.{word_of_flag}
use Rattle.vbr_words.specs.declared.flags.TheConstants.{FLAGS}
use Rattle.vbr_machine.specs.Runs.{Begins, world_after}
use Rattle.vbr_machine.specs.declared.event.Event.{Event}
use Rattle.vbr_machine.specs.declared.event.Step.TheVariants.{TakeFlag}
use Rattle.vbr_machine.specs.declared.knowledge.SlotPlace.TheVariants.{Shared}
use Rattle.vbr_slots.specs.steps.Calls.{Moment}
use Rattle.vbr_slots.specs.pools.Tried.{last_tried}
use Rattle.vbr_slots.specs.views.Views.{Trace, event_of}

-- at a moment of what the pass did the slot was outside the shared pool
pub record WasOutside (p q : Trace) (slot : ℕ) : Type 0 where
  pub moment : List Event
  pub is : Moment p q moment
  pub outside : (world_after p.start moment).place slot ≢ Shared

-- on a way once round the slots, which begins with those of this flag word and goes on from slot 0 after the last one, the one slot comes before the other
abbrev pub ComesBefore : ℕ → ℕ → ℕ → Type 0
ComesBefore word slot other =
    ((FLAGS * word ≤ slot) × (slot < other)) ⊎ ((other < FLAGS * word) × ((FLAGS * word ≤ slot) ⊎ (slot < other)))

-- the pass took the slot out of the shared pool, and on a way that begins with the flag word of the slot that it had tried last each slot before it was outside at some moment
pub record CameByFlag (p q : Trace) (slot : ℕ) : Type 0 where
  pub moment : List Event
  pub is : Moment p q moment
  pub shared : (world_after p.start moment).place slot ≡ Shared
  pub taken : Begins (moment ++ event_of p.who (TakeFlag slot) ∷ []) q.seen
  pub first : (other : ℕ) → other < p.start.shape.slots → ComesBefore (word_of_flag (last_tried p)) other slot → WasOutside p q other
