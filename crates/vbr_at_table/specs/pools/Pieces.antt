-- What each piece of a call that takes a slot promises. Only contracts of private functions cite this.
use Rattle.std.specs.Prelude.{◌≡◌, ◌≢◌, ℕ, ◌+◌, ◌<◌, ◌≤◌, ◌⊎◌, [], ◌∷◌, length, get_or, All, Option, Some, None, Result, Ok, Err}
use Rattle.vbr_machine.specs.Acceptance.{stamp_in}
use Rattle.vbr_slots.specs.declared.pass.TheConstants.{POOL}
use Rattle.vbr_slots.specs.steps.Calls.{Quiet}
use Rattle.vbr_slots.specs.views.Views.{PassView, KeepsPool, knows}
use Rattle.vbr_at_table.specs.costs.Advances.{AdvancesWhereNeeded}
use Rattle.vbr_at_table.specs.costs.Budgets.{NeedsMore, steps_to_win}
use Rattle.vbr_at_table.specs.costs.StepKinds.{advances, flags_raised}
use Rattle.vbr_at_table.specs.costs.Gained.{gained}
use Rattle.vbr_at_table.specs.costs.FlagsInNeed.{WinsNoFlag}
use Rattle.vbr_at_table.specs.hands.KeptSlots.{KeepsSlots, PoolGrows, SharesWhereFull, TakesNoSlot, TriesNoFlag, TriesWhereEmpty, WinsInNeed}
use Rattle.vbr_at_table.specs.hands.Hands.{HandView}
use Rattle.vbr_at_table.specs.pools.Refusals.{IsSpent, TakeIsRefused}
use Rattle.vbr_at_table.specs.pools.SharedPool.{CameByFlag}
use Rattle.vbr_at_table.specs.costs.WithinBudget.{CountsSteps}
use Rattle.vbr_at_table.specs.pools.Taking.{Births, IsOldest}
use Rattle.vbr_at_table.specs.declared.budget.TheConstants.{PIECE}
use Rattle.vbr_at_table.specs.declared.refusal.Refusal.{Refusal}
use Rattle.vbr_at_table.specs.declared.refusal.Refusal.TheVariants.{OutOfSteps, NoSlot, EpochSpent}

-- ---- steps

-- so many steps were used, of those before and some more, and they are within the budget
pub record Uses (p q : PassView) (budget before since most : ℕ) : Type 0 where
  pub counts : CountsSteps p.trace q.trace before since
  pub within : since ≤ budget
  pub at_most : since ≤ before + most

-- how many steps an outcome says were made
abbrev pub told_steps : {A E : Type 0} → Result (A × ℕ) (E × ℕ) → ℕ
told_steps (Ok told) = told.1
told_steps (Err told) = told.1

-- a piece was refused, since the steps that were used leave no room in the budget for one more
pub record FallsShort (p q : PassView) (budget before most : ℕ) (told : Refusal × ℕ) : Type 0 where
  pub uses : Uses p q budget before told.1 most
  pub why : told.0 ≡ OutOfSteps told.1
  pub short : budget < told.1 + PIECE

-- ---- a slot for the own pool

-- the pass looked for a slot: it made no call, and no step that would advance the epoch
-- No slot of it is lost; its own pool grew, if it changed. It put none into the shared pool, unless its own is full but for one place.
-- It tried to take one from there only if its own pool was empty, and won one flag at most.
pub record LooksForSlot (p q : PassView) : Type 0 where
  pub quiet : Quiet p.trace q.trace
  pub count : advances q.trace ≡ advances p.trace
  pub kept : KeepsSlots p q
  pub grows : PoolGrows p q
  pub shared : SharesWhereFull 1 p q
  pub tries : TriesWhereEmpty p q
  pub wins : WinsInNeed p q

-- the own pool is as it was, which had slots, and no step was made; or it was empty, and has one slot, which came by its flag
abbrev pub IsWon : PassView → PassView → ℕ → Type 0
IsWon p q used = ((q.pool ≡ p.pool) × (p.pool ≢ []) × (used ≡ 0))
    ⊎ ((p.pool ≡ []) × (slot : ℕ) × (q.pool ≡ slot ∷ []) × CameByFlag p.trace q.trace slot)

-- the own pool has slots; and if it was empty, no more steps were used than it takes a lone pass to win one, and one for each slot that others took out of the shared pool
pub record HasSlots (p q : PassView) (budget used : ℕ) : Type 0 where
  pub uses : Uses p q budget 0 used budget
  pub hand : q.hand ≡ None
  pub won : IsWon p q used
  pub some : q.pool ≢ []
  pub room : length q.pool ≤ POOL
  pub few : p.pool ≡ [] → used ≤ steps_to_win p.trace.start + gained p.trace q.trace

-- the own pool was empty, and no slot was won, for what the refusal says
pub record WinsNone (p q : PassView) (budget : ℕ) (told : Refusal × ℕ) : Type 0 where
  pub uses : Uses p q budget 0 told.1 budget
  pub empty : p.pool ≡ []
  pub pool : KeepsPool p q
  pub why : TakeIsRefused p q budget told.0
  pub enough : NeedsMore (steps_to_win p.trace.start + gained p.trace q.trace) budget told.0

-- ---- the oldest slot of the own pool

-- the own pool was looked through: no call was made, no slot was taken, and what is known stays
pub record Scans (p q : PassView) : Type 0 where
  pub quiet : Quiet p.trace q.trace
  pub takes_no_slot : TakesNoSlot p q
  pub pool : KeepsPool p q
  pub known : knows q.trace ≡ knows p.trace

-- a slot isn't stamped below an epoch
abbrev pub IsStampedFrom : PassView → ℕ → ℕ → Type 0
IsStampedFrom q epoch slot = epoch ≤ stamp_in ((knows q.trace).own slot)

-- the oldest slot of the own pool that is stamped below an epoch, with its place there, or that there is none
abbrev pub IsStampedBelow : PassView → ℕ → Option (ℕ × ℕ) → Type 0
IsStampedBelow q epoch None = All (IsStampedFrom q epoch) q.pool
IsStampedBelow q epoch (Some at) = (at.0 < length q.pool)
    × (get_or q.pool at.0 0 ≡ at.1)
    × (stamp_in ((knows q.trace).own at.1) < epoch)
    × IsOldest (knows q.trace) q.pool at.1 epoch

-- at most so many slots of the own pool were looked at, for one that is stamped below an epoch
pub record IsScanned (p q : PassView) (epoch budget before most : ℕ) (told : Option (ℕ × ℕ) × ℕ) : Type 0 where
  pub uses : Uses p q budget before told.1 most
  pub below : IsStampedBelow q epoch told.0

-- some were looked at, and the budget has no room for more
abbrev pub ScansPart : PassView → PassView → ℕ → ℕ → ℕ → Refusal × ℕ → Type 0
ScansPart p q budget before most told = FallsShort p q budget before most told

-- a slot was to be chosen: no call was made, the pool and the hand stay, no slot was lost or put into the shared pool, none was looked for there, and the epoch was advanced only if it had to be
pub record Chooses (p q : PassView) : Type 0 where
  pub quiet : Quiet p.trace q.trace
  pub pool : KeepsPool p q
  pub kept : KeepsSlots p q
  pub shared : SharesWhereFull 1 p q
  pub tries : TriesNoFlag p q
  pub wins : WinsNoFlag p.trace q.trace
  pub advances : AdvancesWhereNeeded p q

-- the slot, with its place, is the oldest one of the own pool that is stamped below the epoch that the pass read last
pub record IsChosen (p q : PassView) (budget before : ℕ) (told : (ℕ × ℕ) × ℕ) : Type 0 where
  pub uses : Uses p q budget before told.1 (length p.pool + 3)
  pub below : IsStampedBelow q (knows q.trace).epoch (Some told.0)

-- a refusal says that the budget has no room for one more piece; or, if it had room, that the epoch is spent
abbrev pub IsShortOrSpent : PassView → ℕ → ℕ → Refusal → Type 0
IsShortOrSpent q budget since (OutOfSteps used) = (used ≡ since) × (budget < since + PIECE)
IsShortOrSpent q budget since NoSlot = ⊥
IsShortOrSpent q budget since (EpochSpent epoch) = IsSpent q epoch × (since + PIECE ≤ budget)

-- no slot was chosen, for what the refusal says
pub record ChoosesNone (p q : PassView) (budget before : ℕ) (told : Refusal × ℕ) : Type 0 where
  pub uses : Uses p q budget before told.1 (length p.pool + 1)
  pub why : IsShortOrSpent q budget told.1 told.0

-- ---- a birth

-- a slot goes from the own pool into the hand: no call was made, no slot is lost, at most one has left the pool, no flag was raised or tried, and the epoch wasn't advanced
pub record TakesOne (p q : PassView) : Type 0 where
  pub quiet : Quiet p.trace q.trace
  pub kept : KeepsSlots p q
  pub one : length p.pool ≤ length q.pool + 1
  pub flags : flags_raised q.trace ≡ flags_raised p.trace
  pub tries : TriesNoFlag p q
  pub wins : WinsNoFlag p.trace q.trace
  pub advances : advances q.trace ≡ advances p.trace

-- in one step, an incarnation was born in the slot that was chosen, which is in hand
pub record IsBorn (p q : PassView) (chosen budget before : ℕ) (told : HandView × ℕ) : Type 0 where
  pub uses : Uses p q budget before told.1 1
  pub sum : told.1 ≡ before + 1
  pub slot : told.0.slot ≡ chosen
  pub births : Births p q told.0
  pub oldest : IsOldest (knows q.trace) p.pool chosen told.0.birth
  pub leaves : TakesOne p q

-- no incarnation was born: no step was made
pub record BearsNone (p q : PassView) (budget before : ℕ) (told : Refusal × ℕ) : Type 0 where
  pub same : q ≡ p
  pub short : FallsShort p q budget before 0 told
