-- What an insert, a remove and a look-up promise.
use Rattle.std.specs.Prelude.{◌≡◌, ◌≢◌, ℕ, ◌+◌, ◌<◌, ◌≤◌, Bool, false, [], None, Option, Result, IfOk, IfErr, is_some}
use Rattle.vbr_machine.specs.History.{GivesValue, set_call, values_after}
use Rattle.vbr_machine.specs.Opened.{opening_payloads}
use Rattle.vbr_machine.specs.declared.history.Call.{Call}
use Rattle.vbr_machine.specs.declared.history.Op.{Op}
use Rattle.vbr_machine.specs.declared.history.Op.TheVariants.{Insert, Remove, Has, Get}
use Rattle.vbr_slots.specs.steps.Alone.{IsAlone}
use Rattle.vbr_slots.specs.steps.Calls.{AddsAnswer, AddsNone, IsSame, Made, OnlyLoads, Quiet, made_by}
use Rattle.vbr_slots.specs.views.Views.{PassView, Trace}
use Rattle.vbr_at_table.specs.costs.Advances.{AdvancesWhereNeeded}
use Rattle.vbr_at_table.specs.hands.KeptSlots.{HasUnpublished, KeepsSlots, SharesWhereFull, TakesNoSlot, TriesOnlyWhere, WinsInNeed}
use Rattle.vbr_at_table.specs.reads.Moments.{WasSo}
use Rattle.vbr_at_table.specs.costs.WithinBudget.{TookWithin}
use Rattle.vbr_at_table.specs.answers.Values.{steps_to_value}
use Rattle.vbr_list.specs.calls.LoneReplies.{AnswersAlone}
use Rattle.vbr_list.specs.calls.Budgets.{IsAnsweredOrSpent, LacksSteps, enough_to_insert, enough_to_look_up, enough_with_a_slot, insert_costs, listed_for, look_up_costs}
use Rattle.vbr_list.specs.traversals.Disturbed.{costs_among, disturbed, enough_among, enough_to_insert_among, insert_costs_among, steps_for_slot}
use Rattle.vbr_list.specs.traversals.Leaving.{BoundsOfRemove}
use Rattle.vbr_list.specs.calls.Refusals.{IsRefusedInsert, IsTired}
use Rattle.vbr_list.specs.calls.Told.{given_call, stored_call}
use Rattle.vbr_at_table.specs.declared.refusal.Refusal.{Refusal}

-- what an insert promises besides its answer: about slots, refusals and steps
-- It advances the epoch only if that is needed, loses no slot, and has each that it had but for the one that it published.
-- It puts a slot into the shared pool only if its own has at most two places left.
-- It looks for one there only if its own is empty and the key was absent at a moment. It wins at most one, and only if it has none. It is refused only if it must be.
-- Alone it has steps enough with a budget that is known before. With a slot in the own pool it is then answered, unless the epoch is spent.
-- Alone its answer costs no more than is known before. All of this also holds for a pass that was disturbed so often.
-- With an empty own pool one step more is then counted for each slot that others took out of the shared pool.
pub record BoundsOfInsert (p q : PassView) (key budget : ℕ) (answer : Result Bool Refusal) : Type 0 where
  pub advances : AdvancesWhereNeeded p q
  pub kept : KeepsSlots p q
  pub had : HasUnpublished p q answer
  pub shared : SharesWhereFull 2 p q
  pub tries : TriesOnlyWhere (WasSo p.trace q.trace key false) p q
  pub wins : WinsInNeed p q
  pub refused : IfErr answer (IsRefusedInsert p q key budget)
  pub within : IfErr answer (λ refusal. IsAlone p.trace q.trace → LacksSteps (enough_to_insert p key) budget refusal)
  pub disturbed_within : IfErr answer (λ refusal. LacksSteps (enough_to_insert_among (listed_for p.trace key) (disturbed p.trace q.trace key) (steps_for_slot p q.trace)) budget refusal)
  pub ready : p.pool ≢ [] → IsAlone p.trace q.trace → enough_with_a_slot p.trace key ≤ budget → IsAnsweredOrSpent answer
  pub costs : IfOk answer (λ reply. IsAlone p.trace q.trace → TookWithin p.trace q.trace (insert_costs p key))
  pub disturbed_costs : IfOk answer (λ reply. TookWithin p.trace q.trace (insert_costs_among (listed_for p.trace key) (disturbed p.trace q.trace key) (steps_for_slot p q.trace) (steps_to_value p.trace.start.shape.values)))

-- what a call that looks a key up promises besides its answer: that it only loads, and about slots, refusals and steps
-- Its answer is all that it adds to the chronicle. It advances no epoch, loses no slot, and is refused for want of steps alone.
-- Alone it has steps enough with a budget that is known before, and its answer costs no more than is known before, with so many steps to read a value.
-- The same holds for a pass that was disturbed so often, by updates of others in the key's bucket and by advances of the epoch.
pub record BoundsOfLookUp {A : Type 0} (told : A → Call) (reading : ℕ) (p q : PassView) (key budget : ℕ) (answer : Result A Refusal) : Type 0 where
  pub only_loads : OnlyLoads p.trace q.trace
  pub adds : IfOk answer (λ reply. AddsAnswer (told reply) p.trace q.trace)
  pub adds_none : IfErr answer (λ refusal. AddsNone p.trace q.trace)
  pub takes_no_slot : TakesNoSlot p q
  pub refused : IfErr answer (IsTired p q budget)
  pub within : IfErr answer (λ refusal. IsAlone p.trace q.trace → budget < enough_to_look_up p.trace key)
  pub disturbed_within : IfErr answer (λ refusal. budget < enough_among (listed_for p.trace key) (disturbed p.trace q.trace key))
  pub costs : IfOk answer (λ reply. IsAlone p.trace q.trace → TookWithin p.trace q.trace (look_up_costs p.trace key + reading))
  pub disturbed_costs : IfOk answer (λ reply. TookWithin p.trace q.trace (costs_among (listed_for p.trace key) (disturbed p.trace q.trace key) reading))

-- what a look-up of a set promises besides
abbrev pub BoundsOfHas : PassView → PassView → ℕ → ℕ → Result Bool Refusal → Type 0
BoundsOfHas p q key budget answer = BoundsOfLookUp (set_call p.trace.who Has key) 0 p q key budget answer

-- what a call promises besides its answer; no set has a get
abbrev pub BoundsOfCall : Op → PassView → PassView → ℕ → ℕ → Result Bool Refusal → Type 0
BoundsOfCall Insert = BoundsOfInsert
BoundsOfCall Remove = BoundsOfRemove (λ removed. removed)
BoundsOfCall Has = BoundsOfHas
BoundsOfCall Get = λ p q key budget answer. ⊥

-- the pass is the same; if the call was answered, it made the call that the answer stands for, and alone it got the reply of a plain set; if it was refused, it made none; it has no slot in hand, and made no more steps than its budget
pub record CallsAs {A : Type 0} (told : A → Call) (BoundsSo : Result A Refusal → Type 0) (p q : PassView) (budget : ℕ) (answer : Result A Refusal) : Type 0 where
  pub same : IsSame p.trace q.trace
  pub made : IfOk answer (λ reply. Made (told reply) p.trace q.trace)
  pub alone : IfOk answer (λ reply. AnswersAlone p.trace (told reply).op (told reply).key (told reply).reply)
  pub quiet : IfErr answer (λ refusal. Quiet p.trace q.trace)
  pub hand : q.hand ≡ None
  pub steps : TookWithin p.trace q.trace budget
  pub bounds : BoundsSo answer

-- the same for a call on a set, which has no value
abbrev pub Calls : Op → PassView → PassView → ℕ → ℕ → Result Bool Refusal → Type 0
Calls op p q key budget answer = CallsAs (set_call p.trace.who op key) (BoundsOfCall op p q key budget) p q budget answer

-- ---- calls on a map

-- on a table with one pass the value is what a plain map gives which opened with the entries of its start, perhaps none, and was given the calls of the pass before, and no others
abbrev pub GivesAlone : Trace → Call → Type 0
GivesAlone p call = p.passes ≡ 1 → GivesValue (values_after (opening_payloads p.start) (made_by p)) call.op call.key call.reply call.value

-- the same for a call on a map, which has a value if it stores or gives one
pub record CallsEntry {A : Type 0} (told : A → Call) (BoundsSo : Result A Refusal → Type 0) (p q : PassView) (budget : ℕ) (answer : Result A Refusal) : Type 0 where
  pub calls : CallsAs told BoundsSo p q budget answer
  pub gives : IfOk answer (λ reply. GivesAlone p.trace (told reply))

-- an insert of an entry
abbrev pub CallsInsert : PassView → PassView → ℕ → ℕ → ℕ → Result Bool Refusal → Type 0
CallsInsert p q key value budget answer = CallsEntry (stored_call p.trace.who key value) (BoundsOfInsert p q key budget) p q budget answer

-- a remove of an entry
abbrev pub CallsRemove : PassView → PassView → ℕ → ℕ → Result (Option ℕ) Refusal → Type 0
CallsRemove p q key budget answer = CallsEntry (given_call p.trace.who Remove key) (BoundsOfRemove is_some p q key budget) p q budget answer

-- a get of an entry
abbrev pub CallsGet : PassView → PassView → ℕ → ℕ → Result (Option ℕ) Refusal → Type 0
CallsGet p q key budget answer = CallsEntry (given_call p.trace.who Get key) (BoundsOfLookUp (given_call p.trace.who Get key) 2 p q key budget) p q budget answer
