-- When a pass advances the epoch: only if no slot that it could take is stamped below it.
use Rattle.std.specs.Prelude.{◌≡◌, ℕ, ◌+◌, ◌≤◌, List, [], ◌∷◌, ◌++◌, ◌⊎◌}
use Rattle.vbr_machine.specs.Acceptance.{stamp_in}
use Rattle.vbr_machine.specs.Needs.{AdvancesInNeed, NeedsAdvance}
use Rattle.vbr_machine.specs.Runs.{Begins, know_after}
use Rattle.vbr_machine.specs.declared.event.Event.{Event}
use Rattle.vbr_machine.specs.declared.event.Step.TheVariants.{Advance}
use Rattle.vbr_slots.specs.steps.Calls.{Moment}
use Rattle.vbr_slots.specs.views.Views.{PassView, Trace, event_of}
use Rattle.vbr_at_table.specs.costs.StepKinds.{advances}
use Rattle.vbr_at_table.specs.hands.KeptSlots.{CouldTake}

-- the pass made one step that would advance the epoch, from the epoch that it had read last: no slot that it could take then was stamped below that one, and it had one that it may give birth in
pub record AdvancesOnce (p q : PassView) : Type 0 where
  pub count : advances q.trace ≡ advances p.trace + 1
  pub moment : List Event
  pub is : Moment p.trace q.trace moment
  pub epoch : ℕ
  pub last_read : (know_after p.trace.start moment p.trace.who).epoch ≡ epoch
  pub advance : Begins (moment ++ event_of p.trace.who (Advance epoch) ∷ []) q.trace.seen
  pub stamps : (slot : ℕ) → CouldTake p (know_after p.trace.start moment p.trace.who) slot → epoch ≤ stamp_in ((know_after p.trace.start moment p.trace.who).own slot)
  pub needed : NeedsAdvance (know_after p.trace.start moment p.trace.who) epoch

-- the pass made no such step, or it had to make it
abbrev pub AdvancesWhereNeeded : PassView → PassView → Type 0
AdvancesWhereNeeded p q = (advances q.trace ≡ advances p.trace) ⊎ AdvancesOnce p q

-- in all that it has seen, the pass needed each step that it made and that would advance the epoch
abbrev pub AdvancedInNeed : Trace → Type 0
AdvancedInNeed p = AdvancesInNeed p.start [] p.seen p.who
