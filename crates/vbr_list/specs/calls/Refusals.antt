-- What a refusal says of a call.
use Rattle.std.specs.Prelude.{◌≡◌, ℕ, ◌<◌, false, []}
use Rattle.vbr_slots.specs.views.Views.{PassView}
use Rattle.vbr_at_table.specs.pools.Refusals.{IsOutOfSteps, IsSpent, LeavesRoom}
use Rattle.vbr_at_table.specs.pools.SharedPool.{WasOutside}
use Rattle.vbr_at_table.specs.reads.Moments.{WasSo}
use Rattle.vbr_at_table.specs.declared.refusal.Refusal.{Refusal}
use Rattle.vbr_at_table.specs.declared.refusal.Refusal.TheVariants.{OutOfSteps, NoSlot, EpochSpent}

-- the steps leave no room in the budget, and there is no other refusal
abbrev pub IsTired : PassView → PassView → ℕ → Refusal → Type 0
IsTired p q budget (OutOfSteps used) = IsOutOfSteps p q budget used
IsTired p q budget NoSlot = ⊥
IsTired p q budget (EpochSpent epoch) = ⊥

-- the key was absent at a moment, the own pool was empty and is, and each slot was outside the shared pool at a moment
pub record FoundNoSlot (p q : PassView) (key : ℕ) : Type 0 where
  pub absent : WasSo p.trace q.trace key false
  pub empty : p.pool ≡ []
  pub still : q.pool ≡ []
  pub outside : (slot : ℕ) → slot < p.trace.start.shape.slots → WasOutside p.trace q.trace slot

-- the key was absent at a moment, and the epoch is spent, which was returned only if the budget had room for the piece that would advance it
pub record FoundSpent (p q : PassView) (key budget epoch : ℕ) : Type 0 where
  pub absent : WasSo p.trace q.trace key false
  pub spent : IsSpent q epoch
  pub room : LeavesRoom p q budget

-- what a refusal of an insert says
abbrev pub IsRefusedInsert : PassView → PassView → ℕ → ℕ → Refusal → Type 0
IsRefusedInsert p q key budget (OutOfSteps used) = IsOutOfSteps p q budget used
IsRefusedInsert p q key budget NoSlot = FoundNoSlot p q key
IsRefusedInsert p q key budget (EpochSpent epoch) = FoundSpent p q key budget epoch
