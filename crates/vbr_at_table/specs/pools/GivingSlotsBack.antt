-- What a pass leaves that gives the slots of its own pool back.
use Rattle.std.specs.Prelude.{◌≡◌, ℕ, ◌+◌, ◌≤◌, List, [], ◌∷◌, ◌++◌, length, Contains}
use Rattle.vbr_machine.specs.Runs.{Begins, world_after}
use Rattle.vbr_machine.specs.declared.event.Event.{Event}
use Rattle.vbr_machine.specs.declared.event.Step.TheVariants.{Raise}
use Rattle.vbr_machine.specs.declared.knowledge.SlotPlace.TheVariants.{Shared}
use Rattle.vbr_slots.specs.steps.Calls.{Moment, Quiet, Took}
use Rattle.vbr_slots.specs.views.Views.{PassView, Trace, event_of}
use Rattle.vbr_at_table.specs.costs.FlagsInNeed.{times_beyond}
use Rattle.vbr_at_table.specs.costs.StepKinds.{ChangesNone, advances, flags_raised}
use Rattle.vbr_at_table.specs.hands.KeptSlots.{KeepsSlots}

-- during the call the pass raised the flag of the slot, which then was in the shared pool
pub record WasRaised (p q : Trace) (slot : ℕ) : Type 0 where
  pub moment : List Event
  pub is : Moment p q moment
  pub raised : Begins (moment ++ event_of p.who (Raise slot) ∷ []) q.seen
  pub shared : (world_after p.start (moment ++ event_of p.who (Raise slot) ∷ [])).place slot ≡ Shared

-- all slots of the own pool, which were so many, were raised, one step for each and no other step; no call was made, no slot was lost, no list was changed, and no epoch advanced; the last of them at most was beyond its need
pub record GivesSlotsBack (p q : PassView) (shared : ℕ) : Type 0 where
  pub took : Took p.trace q.trace shared
  pub raises : flags_raised q.trace ≡ flags_raised p.trace + shared
  pub count : shared ≡ length p.pool
  pub emptied : q.pool ≡ []
  pub each : (slot : ℕ) → Contains p.pool slot → WasRaised p.trace q.trace slot
  pub hand : q.hand ≡ p.hand
  pub quiet : Quiet p.trace q.trace
  pub kept : KeepsSlots p q
  pub advances : advances q.trace ≡ advances p.trace
  pub beyond : times_beyond q.trace ≤ times_beyond p.trace + 1
  pub unchanged : ChangesNone p.trace q.trace
