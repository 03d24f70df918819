-- What the return of an unlinked slot leaves.
use Rattle.std.specs.Prelude.{◌≡◌, ℕ, ◌-◌, nat_lt, Bool, List, [], ◌∷◌, ◌++◌, length, Some, None, if◌then◌else◌}
use Rattle.vbr_machine.specs.Knowledge.{Know}
use Rattle.vbr_machine.specs.Learning.{read_epoch, with_own}
use Rattle.vbr_machine.specs.Runs.{Begins, world_after}
use Rattle.vbr_machine.specs.declared.event.Event.{Event}
use Rattle.vbr_machine.specs.declared.event.Step.TheVariants.{StoreStamp}
use Rattle.vbr_machine.specs.declared.knowledge.Holding.TheVariants.{Free}
use Rattle.vbr_slots.specs.declared.pass.TheConstants.{POOL}
use Rattle.vbr_slots.specs.steps.Alone.{IsAlone, IsFresh, LeavesLists}
use Rattle.vbr_slots.specs.steps.Calls.{Moment, Quiet, Took}
use Rattle.vbr_slots.specs.views.Views.{PassView, Trace, event_of, knows}
use Rattle.vbr_at_table.specs.costs.StepKinds.{ChangesNone}
use Rattle.vbr_at_table.specs.hands.KeptSlots.{StaysInTurn, TakesNoSlot}

-- the pass read the epoch during the call, and stamped the slot with it after that
pub record StampsFreshly (p q : Trace) (slot epoch : ℕ) : Type 0 where
  pub reading : List Event
  pub is : Moment p q reading
  pub was_epoch : (world_after p.start reading).epoch ≡ epoch
  pub stamping : List Event
  pub later : Begins reading stamping
  pub stamped : Begins (stamping ++ event_of p.who (StoreStamp slot epoch) ∷ []) q.seen

-- whether a slot that is retired stays in the own pool, which leaves one place free for a hand
abbrev pub is_kept : List ℕ → Bool
is_kept pool = nat_lt (length pool) (POOL - 1)

-- the own pool after a slot was retired
abbrev pub pool_retired : List ℕ → ℕ → List ℕ
pool_retired pool slot = if is_kept pool then pool ++ slot ∷ [] else pool

-- how many steps it takes to retire a slot
abbrev pub steps_to_retire : List ℕ → ℕ
steps_to_retire pool = if is_kept pool then 2 else 3

-- what a pass knows once it has read the epoch and retired a slot: a slot that it keeps is free, and one that it doesn't is no more its own
abbrev pub know_retired : Know → ℕ → ℕ → Bool → Know
know_retired know epoch slot kept = with_own (read_epoch know epoch) slot (if kept then Some (Free epoch) else None)

-- the slot was stamped in so many steps, and is in a pool again
-- It is in the own pool, or in the shared one if the own one has no place but the one for a hand.
-- No call was made, no slot was taken, and a pass that had unlinked in turn has done so since.
-- No list was changed, and a pass that was alone left the lists as they were.
pub record Retires (p q : PassView) (slot steps : ℕ) : Type 0 where
  pub took : Took p.trace q.trace steps
  pub count : steps ≡ steps_to_retire p.pool
  pub quiet : Quiet p.trace q.trace
  pub takes_no_slot : TakesNoSlot p q
  pub turn : StaysInTurn p.trace q.trace
  pub stamped : StampsFreshly p.trace q.trace slot (knows q.trace).epoch
  pub known : knows q.trace ≡ know_retired (knows p.trace) (knows q.trace).epoch slot (is_kept p.pool)
  pub pool : q.pool ≡ pool_retired p.pool slot
  pub hand : q.hand ≡ p.hand
  pub unchanged : ChangesNone p.trace q.trace
  pub alone : IsAlone p.trace q.trace → LeavesLists p.trace q.trace × IsFresh q.trace
