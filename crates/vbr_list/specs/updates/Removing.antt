-- The pieces of a remove. Only contracts of private functions cite this.
use Rattle.std.specs.Prelude.{◌≡◌, ℕ, ◌+◌, ◌≤◌, ◌⊎◌, List, Option, Some, true, is_some}
use Rattle.vbr_words.specs.Words.{link_of}
use Rattle.vbr_machine.specs.Start.{Start}
use Rattle.vbr_words.specs.declared.nodes.Nodes.{Ghosts}
use Rattle.vbr_words.specs.declared.place.At.TheVariants.{Slot}
use Rattle.vbr_words.specs.Buckets.{bucket_of}
use Rattle.vbr_machine.specs.Disturbances.{IsOpenIn}
use Rattle.vbr_machine.specs.Images.{link_shown_at}
use Rattle.vbr_machine.specs.Membership.{KeyAt, StandsBehind}
use Rattle.vbr_machine.specs.Removals.{IsTakenOut}
use Rattle.vbr_machine.specs.Runs.{Begins}
use Rattle.vbr_machine.specs.declared.event.Event.{Event}
use Rattle.vbr_slots.specs.steps.Alone.{nodes}
use Rattle.vbr_slots.specs.steps.Calls.{IsSame, Quiet}
use Rattle.vbr_slots.specs.views.Views.{Trace, knows}
use Rattle.vbr_at_table.specs.costs.StepKinds.{advances}
use Rattle.vbr_at_table.specs.declared.held.Held.{Held}
use Rattle.vbr_at_table.specs.declared.held.Marked.{Marked}
use Rattle.vbr_at_table.specs.declared.rollback.Rollback.{Rollback}
use Rattle.vbr_list.specs.calls.Budgets.{steps_to_value_of}
use Rattle.vbr_list.specs.updates.Expecting.{op_to_remove, takes_out}
use Rattle.vbr_list.specs.updates.Outcomes.{ChangedAsWanted, there_of}
use Rattle.vbr_list.specs.declared.outcome.Outcome.{Outcome}
use Rattle.vbr_list.specs.traversals.Helping.{MayHelp}
use Rattle.vbr_list.specs.traversals.Leaving.{Leaves, LeavesAt, WasClear}
use Rattle.vbr_list.specs.calls.Pieces.{MadeGiving, HasRoomForPiece, trace_in}
use Rattle.vbr_list.specs.traversals.Disturbed.{changed_after}
use Rattle.vbr_list.specs.named_entries.RemovingExactly.{MarkedSlot}
use Rattle.vbr_list.specs.traversals.Searching.{LosesFound, LosesPlace, TraversesAgain, nodes_after}
use Rattle.vbr_list.specs.declared.call.PendingCall.{PendingCall}
use Rattle.vbr_list.specs.declared.found.Found.{Found}

-- a node of the call's key is held by its marked link, behind a place before the key
pub record IsMarkedFor {N : Type 0} {kind : Ghosts N} (c : PendingCall N kind) (pred : Held) (gone : Marked) : Type 0 where
  pub may : MayHelp (trace_in c) pred gone
  pub key : KeyAt (knows (trace_in c)) (Slot gone.slot) c.key
  pub behind : StandsBehind (trace_in c).start (knows (trace_in c)) pred.at c.key

-- the node at this slot was taken out, and not replaced
abbrev pub IsOut : {N : Type 0} {kind : Ghosts N} → PendingCall N kind → ℕ → Type 0
IsOut c slot = IsTakenOut (nodes (trace_in c)) (knows (trace_in c)).epoch slot

-- a removed node has left its list, if the budget has room for a piece more
abbrev pub LeavesWithRoom : {N : Type 0} {kind : Ghosts N} → PendingCall N kind → PendingCall N kind → ℕ → Type 0
LeavesWithRoom c d slot = HasRoomForPiece d → LeavesAt (trace_in c) (trace_in d) slot

-- at a moment no marked node of the key was in a list, unless the budget has no room for one more piece
abbrev pub Clears : {N : Type 0} {kind : Ghosts N} → PendingCall N kind → PendingCall N kind → Type 0
Clears c d = HasRoomForPiece d → WasClear (trace_in c) (trace_in d) c.key

-- the steps of an answer: the steps of reading the value, one for the mark, and six
abbrev pub steps_to_remove : Start → ℕ
steps_to_remove start = steps_to_value_of start + 7

-- the answer takes so many steps; if the node was taken out, and the budget had room to unlink it once its value was read and it was marked, it has left its list
pub record RemovesSoon {N : Type 0} {kind : Ghosts N} (expected : Option ℕ) (c d : PendingCall N kind) (answer : Option ℕ) : Type 0 where
  pub few : d.used ≤ c.used + steps_to_remove (trace_in c).start
  pub leaves : takes_out expected answer ≡ true → c.used + steps_to_value_of (trace_in c).start + 9 ≤ c.budget → Leaves (trace_in c) (trace_in d) c.key

-- past the mark of another node a place shows what it showed before; and if that is the link which is held of it, it is open
pub record MarksBehind (p q : Trace) (key : ℕ) (pred : Held) : Type 0 where
  pub same : IsSame p q
  pub count : advances q ≡ advances p
  pub epoch : (knows q).epoch ≡ (knows p).epoch
  pub moment : List Event
  pub before : Begins p.seen moment
  pub after : Begins moment q.seen
  pub own : changed_after p key moment ≡ changed_after p key p.seen
  pub link : link_shown_at (nodes_after p q.seen) pred.at ≡ link_shown_at (nodes_after p moment) pred.at
  pub opens : link_shown_at (nodes_after p q.seen) pred.at ≡ link_of pred.word → IsOpenIn p.start (nodes_after p q.seen) (bucket_of p.start.shape key) pred.at

-- in at most six steps a place is lost, and a search follows
pub record SearchesOn (p q : Trace) (key before since : ℕ) (pred : Held) : Type 0 where
  pub ended : Trace
  pub quiet : Quiet p ended
  pub count : advances ended ≡ advances p
  pub loses : LosesPlace p ended pred
  pub used : ℕ
  pub few : used ≤ before + 6
  pub then : Quiet ended q
  pub traverses : TraversesAgain 9 ended q key used since

-- the marked node is unlinked in at most as many, and so the key is clear, if it was taken out
pub record UnlinksSoon {N : Type 0} {kind : Ghosts N} (c d : PendingCall N kind) (slot : ℕ) : Type 0 where
  pub few : d.used ≤ c.used + 6
  pub leaves : LeavesAt (trace_in c) (trace_in d) slot
  pub clear : IsOut c slot → WasClear (trace_in c) (trace_in d) c.key

-- the same, or it is not unlinked, as the place before it is lost
abbrev pub UnlinksOrSearches : {N : Type 0} {kind : Ghosts N} → PendingCall N kind → PendingCall N kind → Held → ℕ → Type 0
UnlinksOrSearches c d pred slot = UnlinksSoon c d slot ⊎ SearchesOn (trace_in c) (trace_in d) c.key c.used d.used pred

-- a node was marked in at most so many steps, and not unlinked, as the place before it was lost since
pub record MarksAndSearches (most : ℕ) (p q : Trace) (key before since : ℕ) (pred : Held) : Type 0 where
  pub marked : Trace
  pub marks : MarksBehind p marked key pred
  pub used : ℕ
  pub few : used ≤ before + most
  pub searches : SearchesOn marked q key used since pred

-- a value is expected only if nodes have values
abbrev pub MayExpect : {N : Type 0} {kind : Ghosts N} → PendingCall N kind → Option ℕ → Type 0
MayExpect c expected = is_some expected ≡ true → (trace_in c).start.shape.values ≡ true

-- a node was taken out, and a search followed once the place before it was lost
pub record RemovesLate {N : Type 0} {kind : Ghosts N} (expected : Option ℕ) (c d : PendingCall N kind) (found : Found) (answer : Option ℕ) : Type 0 where
  pub taken : takes_out expected answer ≡ true
  pub late : MarksAndSearches (steps_to_value_of (trace_in c).start + 1) (trace_in c) (trace_in d) c.key c.used d.used found.pred

-- the node that was found was marked, and right before was an entry of the key
pub record MarksFound (p q : Trace) (key : ℕ) (found : Found) : Type 0 where
  pub cur : Held
  pub is : found.cur ≡ Some cur
  pub marks : (s : ℕ) → cur.at ≡ Slot s → MarkedSlot p q s cur.birth key

-- the remove is answered, and gives the value that was read of the node if nodes have values; if the node was taken out, it has left its list, unless the budget has no room for one more piece; it is answered soon, but for a search once the place before the node was lost
pub record RemoveAnswers {N : Type 0} {kind : Ghosts N} (expected : Option ℕ) (c d : PendingCall N kind) (found : Found) (outcome : Outcome) : Type 0 where
  pub made : MadeGiving (op_to_remove expected (there_of outcome)) c d (there_of outcome)
  pub changed : ChangedAsWanted (takes_out expected) outcome
  pub marks : takes_out expected (there_of outcome) ≡ true → MarksFound (trace_in c) (trace_in d) c.key found
  pub unlists : takes_out expected (there_of outcome) ≡ true → HasRoomForPiece d → Leaves (trace_in c) (trace_in d) c.key
  pub paid : RemovesSoon expected c d (there_of outcome) ⊎ RemovesLate expected c d found (there_of outcome)

-- it isn't answered, in at most three steps, and no call was made, as what was found is lost
pub record RemoveRollsBack {N : Type 0} {kind : Ghosts N} (c d : PendingCall N kind) (found : Found) (rollback : Rollback) : Type 0 where
  pub quiet : Quiet (trace_in c) (trace_in d)
  pub few : d.used ≤ c.used + 3
  pub loses : LosesFound (trace_in c) (trace_in d) found
