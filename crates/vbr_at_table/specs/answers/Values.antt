-- What is known of the values of nodes, and what calls show of a key and of an entry, which has a value if nodes have values.
use Rattle.std.specs.Prelude.{◌≡◌, ◌≢◌, ℕ, ◌+◌, Bool, true, false, Option, Some}
use Rattle.vbr_machine.specs.Start.{Start}
use Rattle.vbr_words.specs.Words.{link_of}
use Rattle.vbr_words.specs.declared.place.At.{At}
use Rattle.vbr_words.specs.declared.place.At.TheVariants.{Head, Slot}
use Rattle.vbr_machine.specs.Knowledge.{Know}
use Rattle.vbr_machine.specs.History.{set_call}
use Rattle.vbr_machine.specs.Learning.{present_reply, present_value, value_in_hand, with_value}
use Rattle.vbr_machine.specs.Links.{marked}
use Rattle.vbr_machine.specs.Membership.{KeyAt, Knows}
use Rattle.vbr_machine.specs.Opened.{payload_kept}
use Rattle.vbr_machine.specs.Removals.{IsTakenOut}
use Rattle.vbr_machine.specs.declared.history.Call.{Call}
use Rattle.vbr_machine.specs.declared.history.Op.{Op}
use Rattle.vbr_machine.specs.declared.history.Op.TheVariants.{Get, Insert, Remove}
use Rattle.vbr_machine.specs.declared.knowledge.Read.TheVariants.{ValueOf}
use Rattle.vbr_machine.specs.declared.knowledge.Holding.{Holding}
use Rattle.vbr_slots.specs.steps.Alone.{IsAlone, nodes}
use Rattle.vbr_slots.specs.steps.Calls.{Made, Quiet}
use Rattle.vbr_slots.specs.views.Views.{PassView, Trace, knows}
use Rattle.vbr_at_table.specs.answers.WonAlone.{MarksAlone}
use Rattle.vbr_at_table.specs.answers.Answering.{IsAnswered}
use Rattle.vbr_at_table.specs.costs.StepKinds.{ChangesNone}
use Rattle.vbr_at_table.specs.hands.Hands.{HandView}
use Rattle.vbr_at_table.specs.answers.Exchanges.{FillsHand, InsertsNode}
use Rattle.vbr_at_table.specs.reads.Held.{HoldsMarked, held_of}
use Rattle.vbr_at_table.specs.reads.KeptKnowledge.{Keeps}
use Rattle.vbr_at_table.specs.answers.Marks.{LeavesOthers}
use Rattle.vbr_at_table.specs.declared.held.Held.{Held}
use Rattle.vbr_at_table.specs.declared.held.Marked.{Marked}

-- ---- what is known

-- this value is known at a place: none is at a head
abbrev pub ValueAt : Know → At → ℕ → Type 0
ValueAt know (Head b) value = ⊥
ValueAt know (Slot s) value = Knows know (ValueOf s value)

-- a value is known at a place, if nodes have values
abbrev pub IsValued : Trace → At → Type 0
IsValued p place = p.start.shape.values ≡ true → (value : ℕ) × ValueAt (knows p) place value

-- what a get asks: nodes have values, and one is known at the place
abbrev pub IsAsked : Trace → Op → At → Type 0
IsAsked p op place = op ≡ Get → (p.start.shape.values ≡ true) × ((value : ℕ) × ValueAt (knows p) place value)

-- the operation is another one than this, and a get only if nodes have values
pub record IsOtherIn (start : Start) (refused op : Op) : Type 0 where
  pub other : op ≢ refused
  pub asked : op ≡ Get → start.shape.values ≡ true

-- ---- calls

-- the call of an entry: it has the value, if nodes have values
abbrev pub entry_call : Start → ℕ → Op → ℕ → Bool → ℕ → Call
entry_call start who op key reply value = record { who = who; op = op; key = key; reply = reply; value = payload_kept start (Some value) }

-- the call that finds an entry present: a get gives its value
abbrev pub found_call : ℕ → Op → ℕ → ℕ → Call
found_call who op key value = record { who = who; op = op; key = key; reply = present_reply op; value = present_value op (Some value) }

-- ---- what calls promise

-- this is the value of the node at a place, read in the epoch that the pass had
pub record IsValueRead (p q : PassView) (place : At) (found : ℕ) : Type 0 where
  pub keeps : Keeps (knows p.trace) (knows q.trace)
  pub value : ValueAt (knows q.trace) place found

-- the call that removed a node is a set's, of its key, or one of its entry
abbrev pub IsRemoval : Bool → Trace → Trace → At → Type 0
IsRemoval false p q place = (key : ℕ) → KeyAt (knows p) place key → Made (set_call p.who Remove key true) p q
IsRemoval true p q place = (key value : ℕ) → KeyAt (knows p) place key → (p.start.shape.values ≡ true → ValueAt (knows p) place value) → Made (entry_call p.start p.who Remove key true value) p q

-- the pass made the call that removes the node that was held, of its entry or of its key, and the node's link is marked now, and it is taken out; the mark leaves all other links, and so does a pass that was alone
pub record RemovesNode (entry : Bool) (p q : Trace) (node : Held) (now : Marked) : Type 0 where
  pub made : IsRemoval entry p q node.at
  pub place : (held_of now).at ≡ node.at
  pub link : link_of now.word ≡ marked (link_of node.word)
  pub held : HoldsMarked (knows q) now
  pub out : IsTakenOut (nodes q) (knows q).epoch now.slot
  pub leaves : LeavesOthers p q node
  pub alone : IsAlone p q → MarksAlone p q node

-- it removed its key
abbrev pub RemovesKey : Trace → Trace → Held → Marked → Type 0
RemovesKey = RemovesNode false

-- it removed its entry
abbrev pub MarksEntry : Trace → Trace → Held → Marked → Type 0
MarksEntry = RemovesNode true

-- it answered by the presence of the entry of a node
pub record AnswersEntry (p q : Trace) (op : Op) (node : Held) : Type 0 where
  pub answers : (key value : ℕ) → KeyAt (knows p) node.at key → (op ≡ Get → ValueAt (knows p) node.at value) → IsAnswered p q (found_call p.who op key value)

-- ---- an entry in hand

-- the steps of storing a value: one if nodes have values
abbrev pub steps_to_value : Bool → ℕ
steps_to_value true = 1
steps_to_value false = 0

-- the steps of linking a new node: its key, its value if nodes have values, its link, and the exchange
abbrev pub steps_to_update : Start → ℕ
steps_to_update start = 1 + steps_to_value start.shape.values + 1 + 1

-- a slot in hand once its value is stored, if nodes have values
abbrev pub with_kept_value : Bool → Option Holding → ℕ → Option Holding
with_kept_value true holding value = with_value holding value
with_kept_value false holding value = holding

-- the slot in hand has the value, if nodes have values; no call was made, and no list changed
pub record PutsValue (p q : PassView) (slot value : ℕ) : Type 0 where
  pub quiet : Quiet p.trace q.trace
  pub hand : q.hand ≡ p.hand
  pub holding : (knows q.trace).own slot ≡ with_kept_value p.trace.start.shape.values ((knows p.trace).own slot) value
  pub unchanged : ChangesNone p.trace q.trace

-- the incarnation in hand has this key and this birth in its link, and this value if nodes have values; and no call was made
pub record FillsEntry (p q : PassView) (pred : Held) (given : HandView) (key value birth : ℕ) : Type 0 where
  pub fills : FillsHand p q pred given key birth
  pub valued : p.trace.start.shape.values ≡ true → value_in_hand ((knows q.trace).own given.slot) ≡ Some value

-- the pass inserted the entry, and its hand is empty
abbrev pub LinksEntry : PassView → PassView → ℕ → ℕ → Type 0
LinksEntry p q key value = InsertsNode (entry_call p.trace.start p.trace.who Insert key true value) p q
