-- A removed node leaves its list: what a remove promises besides its answer.
use Rattle.std.specs.Prelude.{◌≡◌, ℕ, ◌<◌, ◌≤◌, Bool, true, List, Result, IfOk, IfErr}
use Rattle.vbr_machine.specs.Accounts.{incarnations_after}
use Rattle.vbr_machine.specs.Agreement.{IsHeldIncarnation}
use Rattle.vbr_machine.specs.Removals.{HasLeft, MarkedLeft, NoneMarked, ReplacedLeft}
use Rattle.vbr_machine.specs.Sound.{IsRemoved}
use Rattle.vbr_machine.specs.declared.event.Event.{Event}
use Rattle.vbr_slots.specs.steps.Alone.{IsAlone, nodes}
use Rattle.vbr_slots.specs.steps.Calls.{Moment}
use Rattle.vbr_slots.specs.views.Views.{PassView, Trace, knows}
use Rattle.vbr_at_table.specs.hands.KeptSlots.{TakesNoSlot}
use Rattle.vbr_at_table.specs.pools.Refusals.{LeavesRoom}
use Rattle.vbr_at_table.specs.costs.WithinBudget.{TookWithin}
use Rattle.vbr_list.specs.calls.Budgets.{enough_to_search, enough_to_unlink, listed_for, remove_costs, steps_to_value_of}
use Rattle.vbr_list.specs.traversals.Disturbed.{disturbed, enough_to_search_among, remove_costs_among}
use Rattle.vbr_list.specs.calls.Refusals.{IsTired}
use Rattle.vbr_at_table.specs.declared.refusal.Refusal.{Refusal}

-- at a moment of what the pass did, no marked node of the key was in a list
pub record WasClear (p q : Trace) (key : ℕ) : Type 0 where
  pub moment : List Event
  pub within : Moment p q moment
  pub none : NoneMarked (incarnations_after p.start moment) key

-- since then the pass has marked an incarnation of the key, which has left all lists
abbrev pub Leaves : Trace → Trace → ℕ → Type 0
Leaves p q key = MarkedLeft p.start p.seen q.seen p.who key

-- each node of the key that was removed before has left all lists
abbrev pub Sweeps : Trace → Trace → ℕ → Type 0
Sweeps p q key = (node : ℕ) → IsRemoved ((nodes p).state node) → (nodes p).key node ≡ key → HasLeft ((nodes q).state node)

-- the node that was held at a slot, if it was removed, has left all lists
abbrev pub LeavesAt : Trace → Trace → ℕ → Type 0
LeavesAt p q slot = (node : ℕ) → IsHeldIncarnation (nodes p) (knows p).epoch slot node → IsRemoved ((nodes p).state node) → HasLeft ((nodes q).state node)

-- since then the pass has replaced an incarnation of the key, which has left all lists
abbrev pub LeavesReplaced : Trace → Trace → ℕ → Type 0
LeavesReplaced p q key = ReplacedLeft p.start p.seen q.seen p.who key

-- what a remove promises besides its answer: about slots, refusals, steps, and the node that it marked
-- It advances no epoch, loses no slot, and is refused only for want of steps.
-- If it answers yes, the node that it marked has left its list, unless its steps leave no room in the budget for one more piece.
-- Alone it has steps enough with a budget that is known before, and its answer costs no more than is known before.
-- With two steps more, one that is answered yes leaves fewer nodes in the list.
-- A pass that was disturbed so often has steps enough with a budget for that, and its answer costs no more than that allows.
pub record BoundsOfRemove {A : Type 0} (yes : A → Bool) (p q : PassView) (key budget : ℕ) (answer : Result A Refusal) : Type 0 where
  pub takes_no_slot : TakesNoSlot p q
  pub unlists : IfOk answer (λ removed. yes removed ≡ true → LeavesRoom p q budget → Leaves p.trace q.trace key)
  pub refused : IfErr answer (IsTired p q budget)
  pub within : IfErr answer (λ refusal. IsAlone p.trace q.trace → budget < enough_to_search p.trace key)
  pub disturbed_within : IfErr answer (λ refusal. budget < enough_to_search_among (listed_for p.trace key) (disturbed p.trace q.trace key))
  pub costs : IfOk answer (λ removed. IsAlone p.trace q.trace → TookWithin p.trace q.trace (remove_costs p.trace key))
  pub disturbed_costs : IfOk answer (λ removed. TookWithin p.trace q.trace (remove_costs_among (listed_for p.trace key) (disturbed p.trace q.trace key) (steps_to_value_of p.trace.start)))
  pub fewer : IfOk answer (λ removed. yes removed ≡ true → IsAlone p.trace q.trace → enough_to_unlink p.trace key ≤ budget → listed_for q.trace key < listed_for p.trace key)
