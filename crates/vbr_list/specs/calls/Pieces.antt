-- A piece of a call in progress: what stays of the call, and what its pass did. Only contracts of private functions cite this.
use Rattle.std.specs.Prelude.{◌≡◌, ℕ, ◌+◌, ◌<◌, ◌≤◌, Bool, length, Option, Some}
use Rattle.vbr_words.specs.declared.nodes.Nodes.{Ghosts}
use Rattle.vbr_machine.specs.History.{set_call}
use Rattle.vbr_machine.specs.declared.history.Op.{Op}
use Rattle.vbr_slots.specs.steps.AtTables.{IsSameTable}
use Rattle.vbr_slots.specs.steps.Calls.{AddsNone, Made, OnlyLoads, Quiet}
use Rattle.vbr_slots.specs.views.Views.{PassView, Trace, knows}
use Rattle.vbr_slots.specs.declared.pass.TheConstants.{POOL}
use Rattle.vbr_at_table.specs.hands.KeptSlots.{TakesNoSlot}
use Rattle.vbr_at_table.specs.costs.WithinBudget.{CountsSteps}
use Rattle.vbr_at_table.specs.declared.budget.TheConstants.{PIECE}
use Rattle.vbr_list.specs.calls.Told.{given_in}
use Rattle.vbr_list.specs.declared.call.PendingCall.{PendingCall}

-- ---- a call in progress

-- its pass, and what the pass has seen
abbrev pub pass_in : {N : Type 0} {kind : Ghosts N} → PendingCall N kind → PassView
pass_in c = c.at.stepper.now

abbrev pub trace_in : {N : Type 0} {kind : Ghosts N} → PendingCall N kind → Trace
trace_in c = c.at.stepper.now.trace

-- its budget has room for one more piece
abbrev pub HasRoomForPiece : {N : Type 0} {kind : Ghosts N} → PendingCall N kind → Type 0
HasRoomForPiece c = c.used + PIECE ≤ c.budget

-- the call is at the same table, by the same pass, for the same key, and has the same budget
pub record IsSameCall {N : Type 0} {kind : Ghosts N} (c d : PendingCall N kind) : Type 0 where
  pub at : IsSameTable c.at d.at
  pub key : d.key ≡ c.key
  pub bucket : d.bucket ≡ c.bucket
  pub budget : d.budget ≡ c.budget

-- the pass made the call, with this reply
abbrev pub Replies : {N : Type 0} {kind : Ghosts N} → Op → PendingCall N kind → PendingCall N kind → Bool → Type 0
Replies op c d reply = Made (set_call (trace_in c).who op c.key reply) (trace_in c) (trace_in d)

-- the pass made the call with this answer, which gives a value if nodes have values
abbrev pub MadeGiving : {N : Type 0} {kind : Ghosts N} → Op → PendingCall N kind → PendingCall N kind → Option ℕ → Type 0
MadeGiving op c d answer = Made (given_in (trace_in c) op c.key answer) (trace_in c) (trace_in d)

-- ---- what a piece keeps

-- the slot in hand stays, with what is known of it, and so does a free place in the own pool; and it is what a call leaves that takes no slot
pub record KeepsHand (p q : PassView) : Type 0 where
  pub hand : q.hand ≡ p.hand
  pub in_hand : (s : ℕ) → p.hand ≡ Some s → (knows q.trace).own s ≡ (knows p.trace).own s
  pub room : length p.pool < POOL → length q.pool < POOL
  pub takes_no_slot : TakesNoSlot p q

-- what was done made no call, its steps are counted, and the slot in hand stays
pub record Goes (p q : PassView) (before since : ℕ) : Type 0 where
  pub quiet : Quiet p.trace q.trace
  pub counts : CountsSteps p.trace q.trace before since
  pub hand : KeepsHand p q

-- the same within the budget
pub record Tries (p q : PassView) (before since budget : ℕ) : Type 0 where
  pub goes : Goes p q before since
  pub within : (before ≤ since) × (since ≤ budget)

-- the call is the same one, and has gone on so
pub record GoesOn {N : Type 0} {kind : Ghosts N} (c d : PendingCall N kind) : Type 0 where
  pub call : IsSameCall c d
  pub goes : Goes (pass_in c) (pass_in d) c.used d.used
  pub more : c.used ≤ d.used

-- the call is the same one, and may have been answered: its steps are counted, and the slot in hand stays
pub record Settles {N : Type 0} {kind : Ghosts N} (c d : PendingCall N kind) : Type 0 where
  pub call : IsSameCall c d
  pub counts : CountsSteps (trace_in c) (trace_in d) c.used d.used
  pub hand : KeepsHand (pass_in c) (pass_in d)
  pub more : c.used < d.used

-- the pass only observed: it made only loads, and added no event to the chronicle
pub record Observes (p q : Trace) : Type 0 where
  pub only_loads : OnlyLoads p q
  pub adds_none : AddsNone p q

-- the same within the budget
pub record Peeks (p q : PassView) (before since budget : ℕ) : Type 0 where
  pub tries : Tries p q before since budget
  pub observes : Observes p.trace q.trace

-- it did so, and its steps are counted
pub record LooksOn (p q : PassView) (before since : ℕ) : Type 0 where
  pub goes : Goes p q before since
  pub observes : Observes p.trace q.trace
