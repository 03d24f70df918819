-- A look-up, piece by piece: all its steps are loads. Only contracts of private functions cite this.
use Rattle.std.specs.Prelude.{◌≡◌, ℕ, ◌+◌, ◌<◌, Bool, true, false, Option, Some, None}
use Rattle.vbr_words.specs.declared.nodes.Nodes.{Ghosts}
use Rattle.vbr_words.specs.declared.place.At.TheVariants.{Slot}
use Rattle.vbr_slots.specs.steps.Alone.{IsFresh}
use Rattle.vbr_slots.specs.steps.Calls.{AddsAnswer, AddsNone, Quiet}
use Rattle.vbr_slots.specs.views.Views.{knows}
use Rattle.vbr_at_table.specs.declared.budget.TheConstants.{PIECE}
use Rattle.vbr_at_table.specs.answers.Records.{WasHeldEntry, WasHeldValue}
use Rattle.vbr_at_table.specs.declared.held.Held.{Held}
use Rattle.vbr_at_table.specs.declared.rollback.Rollback.{Rollback}
use Rattle.vbr_list.specs.calls.Budgets.{steps_where}
use Rattle.vbr_list.specs.calls.Pieces.{MadeGiving, trace_in}
use Rattle.vbr_list.specs.traversals.Places.{IsSight, sighted}
use Rattle.vbr_list.specs.calls.Told.{given_in, look_up_op}
use Rattle.vbr_list.specs.traversals.Searching.{IsDisturbed, LooksTo, LosesHeld, StoodOpen, TraversesAgain, TraversesOnce}
use Rattle.vbr_list.specs.declared.call.PendingCall.{PendingCall}
use Rattle.vbr_list.specs.declared.looking.Sight.{Sight}
use Rattle.vbr_list.specs.declared.traversal.Stop.{Stop}
use Rattle.vbr_list.specs.declared.traversal.Stop.TheVariants.{Again, Tired}

-- what a look-up came to is true of the call's key, by what the pass knows
abbrev pub IsSightFor : {N : Type 0} {kind : Ghosts N} → PendingCall N kind → Sight → Type 0
IsSightFor c sight = IsSight (trace_in c).start (knows (trace_in c)) c.key sight

-- one traversal came to the key, or to where it is absent
pub record TraversesTo {N : Type 0} {kind : Ghosts N} (c d : PendingCall N kind) (sight : Sight) : Type 0 where
  pub sees : IsSight (trace_in d).start (knows (trace_in d)) c.key sight
  pub fresh : IsFresh (trace_in d)
  pub stood : StoodOpen (trace_in c) (trace_in d) c.bucket (sighted sight)
  pub paid : TraversesOnce 5 3 (trace_in c) (trace_in d) c.bucket c.used d.used

-- it stopped before that: it rolled back, disturbed by another; or the budget has no room for one more piece
abbrev pub TraversalStops : {N : Type 0} {kind : Ghosts N} → PendingCall N kind → PendingCall N kind → Stop → Type 0
TraversalStops c d Again = (c.used < d.used) × TraversesOnce 5 3 (trace_in c) (trace_in d) c.bucket c.used d.used × IsDisturbed (trace_in c) (trace_in d) c.bucket
TraversalStops c d Tired = (c.budget < d.used + PIECE) × TraversesOnce 5 3 (trace_in c) (trace_in d) c.bucket c.used d.used

-- a look came to the key, or to where it is absent
pub record Sees {N : Type 0} {kind : Ghosts N} (c d : PendingCall N kind) (sight : Sight) : Type 0 where
  pub sees : IsSight (trace_in d).start (knows (trace_in d)) c.key sight
  pub fresh : IsFresh (trace_in d)
  pub looks : LooksTo (trace_in c) (trace_in d) c.key c.used d.used (sighted sight)

-- the budget has no room for one more piece
pub record LookTires {N : Type 0} {kind : Ghosts N} (c d : PendingCall N kind) : Type 0 where
  pub tired : c.budget < d.used + PIECE
  pub looks : TraversesAgain 5 (trace_in c) (trace_in d) c.key c.used d.used

-- the steps of an answer: one, and two for the value if it is given
abbrev pub steps_to_answer : Bool → ℕ
steps_to_answer gives = 1 + steps_where gives

-- what is asked for is a look-up, or a get if nodes have values
abbrev pub IsAskedOf : {N : Type 0} {kind : Ghosts N} → PendingCall N kind → Bool → Type 0
IsAskedOf c gives = gives ≡ true → (trace_in c).start.shape.values ≡ true

-- the look-up is answered, and adds just its answer to the chronicle
pub record LookUpAnswers {N : Type 0} {kind : Ghosts N} (gives : Bool) (c d : PendingCall N kind) (answer : Option ℕ) : Type 0 where
  pub made : MadeGiving (look_up_op gives) c d answer
  pub adds : AddsAnswer (given_in (trace_in c) (look_up_op gives) c.key answer) (trace_in c) (trace_in d)

-- the same, with the value of a node that was an entry of the key, and had this value then, or with 0
pub record GivesValueOf {N : Type 0} {kind : Ghosts N} (gives : Bool) (c d : PendingCall N kind) (node : Held) (answer : Option ℕ) : Type 0 where
  pub answers : LookUpAnswers gives c d answer
  pub value : ℕ
  pub is : answer ≡ Some value
  pub zero : gives ≡ false → value ≡ 0
  pub shows : (s : ℕ) → node.at ≡ Slot s → WasHeldEntry (trace_in c) (trace_in d) node s c.key
  pub stores : gives ≡ true → (s : ℕ) → node.at ≡ Slot s → WasHeldValue (trace_in c) (trace_in d) node s c.key value

-- the same, with no
pub record GivesNone {N : Type 0} {kind : Ghosts N} (gives : Bool) (c d : PendingCall N kind) (answer : Option ℕ) : Type 0 where
  pub answers : LookUpAnswers gives c d answer
  pub none : answer ≡ None

-- it isn't answered, and added nothing: the link that is to show it stands no more, or the epoch has moved
pub record LookUpRollsBack {N : Type 0} {kind : Ghosts N} (c d : PendingCall N kind) (sight : Sight) (rollback : Rollback) : Type 0 where
  pub quiet : Quiet (trace_in c) (trace_in d)
  pub adds_none : AddsNone (trace_in c) (trace_in d)
  pub loses : LosesHeld (trace_in c) (trace_in d) (sighted sight)
