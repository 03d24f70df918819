-- A conditional store: a key gets a value if its state is the wanted one, at one point.
use Rattle.std.specs.Prelude.{◌≡◌, ◌≢◌, ℕ, ◌≤◌, Bool, true, false, List, [], ◌∷◌, Option, Some, None, Result, Ok, Err, IfOk, IfErr, if◌then◌else◌}
use Rattle.vbr_machine.specs.declared.history.Call.{Call}
use Rattle.vbr_machine.specs.declared.history.Op.TheVariants.{Get, Remove}
use Rattle.vbr_slots.specs.steps.Alone.{IsAlone}
use Rattle.vbr_slots.specs.steps.Calls.{IsSame, Made, Quiet}
use Rattle.vbr_slots.specs.views.Views.{PassView, Trace}
use Rattle.vbr_at_table.specs.costs.Advances.{AdvancesWhereNeeded}
use Rattle.vbr_at_table.specs.hands.KeptSlots.{HasAllButOne, HasStill, KeepsSlots, SharesWhereFull, TriesOnlyWhere, WinsInNeed}
use Rattle.vbr_at_table.specs.pools.Refusals.{HasNoSlot, IsOutOfSteps, IsSpent, LeavesRoom}
use Rattle.vbr_at_table.specs.answers.Replacing.{MadeTwo}
use Rattle.vbr_at_table.specs.costs.WithinBudget.{TookWithin}
use Rattle.vbr_list.specs.calls.LoneReplies.{AreAnsweredAlone}
use Rattle.vbr_list.specs.calls.Budgets.{IsAnsweredOrSpent, LacksSteps, enough_to_store, enough_to_store_with_a_slot, enough_to_unlist, listed_for, store_costs}
use Rattle.vbr_list.specs.traversals.Disturbed.{disturbed, enough_to_store_among, steps_to_prepare, store_costs_among}
use Rattle.vbr_list.specs.traversals.Leaving.{LeavesReplaced}
use Rattle.vbr_list.specs.calls.Told.{given_call, stored_call}
use Rattle.vbr_list.specs.updates.Wanted.{WasWanted, wants}
use Rattle.vbr_list.specs.declared.wanted.Wanted.{Wanted}
use Rattle.vbr_at_table.specs.declared.refusal.Refusal.{Refusal}
use Rattle.vbr_at_table.specs.declared.refusal.Refusal.TheVariants.{OutOfSteps, NoSlot, EpochSpent}

-- ---- the calls of the history that it makes

-- the calls that store a value: an insert if the key was absent; otherwise a remove of what was there, and then the insert
abbrev pub storing_calls : ℕ → ℕ → ℕ → Option ℕ → List Call
storing_calls who key value None = stored_call who key value true ∷ []
storing_calls who key value (Some old) = given_call who Remove key (Some old) ∷ stored_call who key value true ∷ []

-- the calls of a store, by what was there: these if that was as wanted, otherwise a get of it
abbrev pub stored_calls : ℕ → ℕ → ℕ → Wanted → Option ℕ → List Call
stored_calls who key value wanted there = if wants wanted there then storing_calls who key value there else given_call who Get key there ∷ []

-- the pass made just these calls: one, or two next to each other, with no call of any pass between them
abbrev pub Makes : List Call → Trace → Trace → Type 0
Makes (one ∷ []) p q = Made one p q
Makes (one ∷ two ∷ []) p q = MadeTwo one two p q
Makes calls p q = ⊥

-- it replaced a node: a value was there, and as wanted
abbrev pub replaced : Wanted → Option ℕ → Bool
replaced wanted None = false
replaced wanted (Some old) = wants wanted (Some old)

-- ---- its slots

-- each slot that the pass had it still has, but for the one that it published, if it stored
abbrev pub HasUnlessStored : Bool → PassView → PassView → Type 0
HasUnlessStored true p q = HasAllButOne p q
HasUnlessStored false p q = HasStill p q

-- the same for an answer, and for a refusal, which stores nothing
abbrev pub HasUnstored : {E : Type 0} → Wanted → PassView → PassView → Result (Option ℕ) E → Type 0
HasUnstored wanted p q (Ok there) = HasUnlessStored (wants wanted there) p q
HasUnstored wanted p q (Err refusal) = HasStill p q

-- ---- what its refusals say

-- at a moment it was as wanted, the own pool was empty and is, and each slot was outside the shared pool at a moment
pub record WantedWithoutSlot (wanted : Wanted) (p q : PassView) (key : ℕ) : Type 0 where
  pub was : WasWanted wanted p.trace q.trace key
  pub none : HasNoSlot p q

-- at a moment it was as wanted, and the epoch is spent, which was returned only if the budget had room for the piece that would advance it
pub record WantedAndSpent (wanted : Wanted) (p q : PassView) (key budget epoch : ℕ) : Type 0 where
  pub was : WasWanted wanted p.trace q.trace key
  pub spent : IsSpent q epoch
  pub room : LeavesRoom p q budget

-- what a refusal of a store says
abbrev pub IsRefusedStore : Wanted → PassView → PassView → ℕ → ℕ → Refusal → Type 0
IsRefusedStore wanted p q key budget (OutOfSteps used) = IsOutOfSteps p q budget used
IsRefusedStore wanted p q key budget NoSlot = WantedWithoutSlot wanted p q key
IsRefusedStore wanted p q key budget (EpochSpent epoch) = WantedAndSpent wanted p q key budget epoch

-- ---- the call

-- what a store promises besides its answer: about slots, refusals, steps, and the node that it replaced
-- It advances the epoch only if that is needed, and has each slot that it had but for the one that it published.
-- It puts a slot into the shared pool only if its own has at most two places left.
-- It looks for one there only if its own is empty and the key was as wanted at a moment. It wins at most one, and only if it has none. It is refused only if it must be.
-- Alone it has steps enough with a budget that is known before. With a slot in the own pool it is then answered, unless the epoch is spent.
-- A node that it replaced has left its list, unless its steps leave no room in the budget for one more piece; alone it has with a budget that is known before.
-- Alone its answer costs no more than is known before. All of this also holds for a pass that was disturbed so often.
-- With an empty own pool one step more is then counted for each slot that others took out of the shared pool.
pub record BoundsOfStore (wanted : Wanted) (p q : PassView) (key budget : ℕ) (answer : Result (Option ℕ) Refusal) : Type 0 where
  pub advances : AdvancesWhereNeeded p q
  pub had : HasUnstored wanted p q answer
  pub shared : SharesWhereFull 2 p q
  pub tries : TriesOnlyWhere (WasWanted wanted p.trace q.trace key) p q
  pub wins : WinsInNeed p q
  pub refused : IfErr answer (IsRefusedStore wanted p q key budget)
  pub within : IfErr answer (λ refusal. IsAlone p.trace q.trace → LacksSteps (enough_to_store wanted p key) budget refusal)
  pub disturbed_within : IfErr answer (λ refusal. LacksSteps (enough_to_store_among (listed_for p.trace key) (disturbed p.trace q.trace key) (steps_to_prepare wanted p q.trace)) budget refusal)
  pub ready : p.pool ≢ [] → IsAlone p.trace q.trace → enough_to_store_with_a_slot wanted p.trace key ≤ budget → IsAnsweredOrSpent answer
  pub leaves : IfOk answer (λ there. replaced wanted there ≡ true → LeavesRoom p q budget → LeavesReplaced p.trace q.trace key)
  pub leaves_alone : IfOk answer (λ there. replaced wanted there ≡ true → IsAlone p.trace q.trace → enough_to_unlist wanted p key ≤ budget → LeavesReplaced p.trace q.trace key)
  pub costs : IfOk answer (λ there. IsAlone p.trace q.trace → TookWithin p.trace q.trace (store_costs wanted p key))
  pub disturbed_costs : IfOk answer (λ there. TookWithin p.trace q.trace (store_costs_among (listed_for p.trace key) (disturbed p.trace q.trace key) (steps_to_prepare wanted p q.trace)))

-- the pass is the same; if the call was answered, with what was there, it made the calls that this stands for, and alone that was there in a plain map; if it was refused, it made none; it has no slot in hand, made no more steps than its budget, and lost no slot
pub record CallsStore (p q : PassView) (key value : ℕ) (wanted : Wanted) (budget : ℕ) (answer : Result (Option ℕ) Refusal) : Type 0 where
  pub same : IsSame p.trace q.trace
  pub made : IfOk answer (λ there. Makes (stored_calls p.trace.who key value wanted there) p.trace q.trace)
  pub alone : IfOk answer (λ there. AreAnsweredAlone p.trace (stored_calls p.trace.who key value wanted there))
  pub quiet : IfErr answer (λ refusal. Quiet p.trace q.trace)
  pub hand : q.hand ≡ None
  pub steps : TookWithin p.trace q.trace budget
  pub kept : KeepsSlots p q
  pub bounds : BoundsOfStore wanted p q key budget answer
