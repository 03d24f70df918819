-- When a call takes no slot, and what it leaves.
use Rattle.std.specs.Prelude.{◌≡◌, ◌≢◌, ℕ, ◌+◌, ◌<◌, ◌≤◌, [], ◌∷◌, All, None, ◌⊎◌}
use Rattle.vbr_machine.specs.Acceptance.{stamp_in}
use Rattle.vbr_slots.specs.steps.Alone.{IsAlone}
use Rattle.vbr_slots.specs.steps.Calls.{Took}
use Rattle.vbr_slots.specs.views.Views.{PassView, knows}
use Rattle.vbr_at_table.specs.costs.Budgets.{NeedsMore, steps_to_take, steps_to_take_among}
use Rattle.vbr_at_table.specs.costs.Gained.{gained}
use Rattle.vbr_at_table.specs.pools.SharedPool.{WasOutside, CameByFlag}
use Rattle.vbr_at_table.specs.declared.budget.TheConstants.{PIECE}
use Rattle.vbr_at_table.specs.declared.refusal.Refusal.{Refusal}
use Rattle.vbr_at_table.specs.declared.refusal.Refusal.TheVariants.{OutOfSteps, NoSlot, EpochSpent}

-- the own pool was empty and is, and each slot was outside the shared pool at some moment of the call
pub record HasNoSlot (p q : PassView) : Type 0 where
  pub empty : p.pool ≡ []
  pub still : q.pool ≡ []
  pub outside : (slot : ℕ) → slot < p.trace.start.shape.slots → WasOutside p.trace q.trace slot

-- each slot of the own pool has this epoch as its stamp
abbrev pub AllStamped : PassView → ℕ → Type 0
AllStamped q epoch = All (λ slot. stamp_in ((knows q.trace).own slot) ≡ epoch) q.pool

-- the epoch that the pass read last is the last one, and the own pool isn't empty, but each slot of it is stamped with that
pub record IsSpent (q : PassView) (epoch : ℕ) : Type 0 where
  pub last : epoch ≡ q.trace.start.shape.last_epoch
  pub last_read : (knows q.trace).epoch ≡ epoch
  pub some : q.pool ≢ []
  pub stamped : AllStamped q epoch

-- the steps that were made leave room in the budget for one more piece
pub record LeavesRoom (p q : PassView) (budget : ℕ) : Type 0 where
  pub steps : ℕ
  pub room : steps + PIECE ≤ budget
  pub took : Took p.trace q.trace steps

-- the steps that were made are within the budget, and leave no room in it for one more piece
pub record IsOutOfSteps (p q : PassView) (budget used : ℕ) : Type 0 where
  pub took : Took p.trace q.trace used
  pub within : used ≤ budget
  pub short : budget < used + PIECE

-- what a refusal says of a call; that the epoch is spent is returned only if the budget had room for the piece that would advance it
abbrev pub TakeIsRefused : PassView → PassView → ℕ → Refusal → Type 0
TakeIsRefused p q budget (OutOfSteps used) = IsOutOfSteps p q budget used
TakeIsRefused p q budget NoSlot = HasNoSlot p q
TakeIsRefused p q budget (EpochSpent epoch) = IsSpent q epoch × LeavesRoom p q budget

-- after a refusal the own pool is as before, or was empty and holds the one slot whose flag was won
abbrev pub LeavesPool : PassView → PassView → Type 0
LeavesPool p q = (q.pool ≡ p.pool)
    ⊎ ((p.pool ≡ []) × (slot : ℕ) × (q.pool ≡ slot ∷ []) × CameByFlag p.trace q.trace slot)

-- a refusal says that the epoch is spent
abbrev pub TellsSpent : Refusal → Type 0
TellsSpent (EpochSpent epoch) = Unit {0}
TellsSpent _ = ⊥

-- no slot was taken, for what the refusal says, and none is in hand
-- With a slot in the own pool and a budget of 80 it says that the epoch is spent.
-- To a pass that was alone it lacks steps only with a budget that has no room for those that taking one costs.
-- To any other pass the same holds, but for one more for each slot that others took out of the shared pool, if its own was empty.
pub record RefusesTake (p q : PassView) (budget : ℕ) (refusal : Refusal) : Type 0 where
  pub why : TakeIsRefused p q budget refusal
  pub pool : LeavesPool p q
  pub hand : q.hand ≡ None
  pub ready : p.pool ≢ [] → 80 ≤ budget → TellsSpent refusal
  pub enough : IsAlone p.trace q.trace → NeedsMore (steps_to_take p.trace.start p.pool) budget refusal
  pub among : NeedsMore (steps_to_take_among p.trace.start p.pool (gained p.trace q.trace)) budget refusal
