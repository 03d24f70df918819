-- Progress of the whole set: a call with budget enough is answered, or another one is meanwhile.
use Rattle.std.specs.Prelude.{◌≡◌, ◌≢◌, ℕ, ◌+◌, ◌-◌, ◌*◌, ◌<◌, ◌≤◌, ◌⊎◌, true, List, [], ◌++◌, Err, Contains}
use Rattle.vbr_machine.specs.Accounts.{incarnations_after}
use Rattle.vbr_machine.specs.Disturbances.{is_update, updates}
use Rattle.vbr_machine.specs.Nodes.{marked_after}
use Rattle.vbr_machine.specs.Runs.{Begins, BeginsFor, IsRun}
use Rattle.vbr_machine.specs.Start.{IsStart}
use Rattle.vbr_machine.specs.Unretired.{removes, unretired_after}
use Rattle.vbr_machine.specs.Whereabouts.{Unstamped, number_at}
use Rattle.vbr_machine.specs.declared.event.Event.{Event}
use Rattle.vbr_machine.specs.declared.event.Step.TheVariants.{ReadEpoch}
use Rattle.vbr_machine.specs.declared.history.Call.{Call}
use Rattle.vbr_machine.specs.declared.history.Op.{Op}
use Rattle.vbr_machine.specs.declared.history.Op.TheVariants.{Has, Insert, Remove}
use Rattle.vbr_slots.specs.declared.pass.TheConstants.{POOL}
use Rattle.vbr_slots.specs.Tokens.{SeenView}
use Rattle.vbr_slots.specs.views.Views.{Did, KeepsPool, PassView, TableView, Trace, new_trace}
use Rattle.vbr_at_table.specs.costs.Advances.{AdvancedInNeed}
use Rattle.vbr_at_table.specs.pools.GivingSlotsBack.{GivesSlotsBack}
use Rattle.vbr_at_table.specs.hands.KeptSlots.{TakesNoSlot}
use Rattle.vbr_at_table.specs.pools.Reserving.{TakesFlags}
use Rattle.vbr_list.specs.calls.Budgets.{listed_for}
use Rattle.vbr_list.specs.look_ups.Cursors.{SeesMore}
use Rattle.vbr_list.specs.traversals.Disturbed.{disturbed, enough_among, enough_to_insert_among, enough_to_search_among, enough_to_store_among, steps_for_slot, steps_to_prepare}
use Rattle.vbr_list.specs.updates.Expecting.{CallsRemoveIf}
use Rattle.vbr_list.specs.calls.CallBounds.{Calls, CallsGet, CallsInsert, CallsRemove}
use Rattle.vbr_list.specs.updates.Storing.{CallsStore}
use Rattle.vbr_list.specs.declared.wanted.Wanted.{Wanted}
use Rattle.vbr_at_table.specs.declared.refusal.Refusal.{Refusal}
use Rattle.vbr_at_table.specs.declared.refusal.Refusal.TheVariants.{OutOfSteps}
use Rattle.vbr_set.specs.histories.Histories.{calls_of}
use Rattle.vbr_set.specs.calls.MapCalls.{IsCall}
use Rattle.vbr_set.specs.calls.Members.{MemberView}
use Rattle.vbr_set.specs.histories.Tokens.{CatchesUp}

-- ---- what one pass did

-- a pass has advanced the epoch only in need when it is opened, and after each call on a set or a map, answered or refused, what goes over keys, each meeting, each catching up, and each giving back, each reserve and each top-up of slots
pub record PassesAdvanceInNeed : Type 0 where
  pub opened : (set : TableView) (who : ℕ) → AdvancedInNeed (new_trace set who)
  pub called : (op : Op) (m n : MemberView) → AdvancedInNeed m.pass.trace → IsCall op m n → AdvancedInNeed n.pass.trace
  pub went_over : (p q : PassView) → AdvancedInNeed p.trace → SeesMore p.trace q.trace → TakesNoSlot p q → AdvancedInNeed q.trace
  pub met : (p q : PassView) (epoch : ℕ) → AdvancedInNeed p.trace → Did ReadEpoch p.trace q.trace epoch → KeepsPool p q → AdvancedInNeed q.trace
  pub caught : (set : TableView) (p q : PassView) (token : SeenView) → AdvancedInNeed p.trace → CatchesUp set p token q → AdvancedInNeed q.trace
  pub gave : (p q : PassView) (shared : ℕ) → AdvancedInNeed p.trace → GivesSlotsBack p q shared → AdvancedInNeed q.trace
  pub reserved : (p q : PassView) (steps : ℕ) → AdvancedInNeed p.trace → TakesFlags p q steps → AdvancedInNeed q.trace

-- ---- what all passes did

-- what a pass has seen is a run from a start, of which it is one of the passes, as it always is (the law of passes)
pub record SeesRun (p : Trace) : Type 0 where
  pub start : IsStart p.start
  pub low : p.who < p.passes
  pub is_run : IsRun p.start p.passes p.seen

-- a pass of this number came back from a call, and had by then advanced the epoch only in need: of its own steps it had seen all that another has seen
pub record CameBack (q : Trace) (who : ℕ) : Type 0 where
  pub view : PassView
  pub is : view.trace.who ≡ who
  pub start : view.trace.start ≡ q.start
  pub in_need : AdvancedInNeed view.trace
  pub run : List Event
  pub own : BeginsFor who view.trace.seen run
  pub seen : Begins q.seen run

-- from what one had seen to what it has then seen, each pass of the set stood still, wherever it did, or came back from the calls in which it made its steps
pub record Proceeds (p q : Trace) : Type 0 where
  pub sees : SeesMore p q
  pub each : (who : ℕ) → who < q.passes → BeginsFor who p.seen q.seen ⊎ CameBack q who

-- how often a pass can be disturbed while no update is answered yes: once, once for each node that is marked, and once for each that is removed and not retired
abbrev pub most_unanswered : Trace → ℕ
most_unanswered p = 1 + marked_after p.start p.seen + unretired_after p.start p.seen

-- how many updates were answered yes
abbrev pub updates_in : Trace → Trace → ℕ
updates_in p q = updates (incarnations_after p.start q.seen).calls - updates (incarnations_after p.start p.seen).calls

-- meanwhile another pass was answered yes: one of its inserts or removes was made since
pub record AnotherIsAnswered (p q : Trace) : Type 0 where
  pub since : List Call
  pub adds : calls_of q.start q.seen ≡ calls_of p.start p.seen ++ since
  pub call : Call
  pub among : Contains since call
  pub other : call.who ≢ p.who
  pub update : is_update call.op ≡ true
  pub yes : call.reply ≡ true

-- ---- laws of the whole set

-- a pass is disturbed no more often than so while no update is answered yes, and three times more for each that is
abbrev pub AnswersDisturb : Type 0
AnswersDisturb = (p q : PassView) (key : ℕ) → SeesRun p.trace → Proceeds p.trace q.trace → disturbed p.trace q.trace key ≤ most_unanswered p.trace + 3 * updates_in p.trace q.trace

-- a call whose budget is enough for that is refused for want of steps only if another pass was answered meanwhile: a look-up, a remove or an insert
pub record RefusalsShowAnswers : Type 0 where
  pub look_up : (p q : PassView) (key budget : ℕ) (refusal : Refusal) → SeesRun p.trace → Proceeds p.trace q.trace → Calls Has p q key budget (Err refusal)
      → enough_among (listed_for p.trace key) (most_unanswered p.trace) ≤ budget → AnotherIsAnswered p.trace q.trace
  pub remove : (p q : PassView) (key budget : ℕ) (refusal : Refusal) → SeesRun p.trace → Proceeds p.trace q.trace → Calls Remove p q key budget (Err refusal)
      → enough_to_search_among (listed_for p.trace key) (most_unanswered p.trace) ≤ budget → AnotherIsAnswered p.trace q.trace
  pub insert : (p q : PassView) (key budget used : ℕ) → SeesRun p.trace → Proceeds p.trace q.trace → Calls Insert p q key budget (Err (OutOfSteps used))
      → enough_to_insert_among (listed_for p.trace key) (most_unanswered p.trace) (steps_for_slot p q.trace) ≤ budget → AnotherIsAnswered p.trace q.trace

-- the same for the calls on a map
pub record MapRefusalsShowAnswers : Type 0 where
  pub get : (p q : PassView) (key budget : ℕ) (refusal : Refusal) → SeesRun p.trace → Proceeds p.trace q.trace → CallsGet p q key budget (Err refusal)
      → enough_among (listed_for p.trace key) (most_unanswered p.trace) ≤ budget → AnotherIsAnswered p.trace q.trace
  pub remove_entry : (p q : PassView) (key budget : ℕ) (refusal : Refusal) → SeesRun p.trace → Proceeds p.trace q.trace → CallsRemove p q key budget (Err refusal)
      → enough_to_search_among (listed_for p.trace key) (most_unanswered p.trace) ≤ budget → AnotherIsAnswered p.trace q.trace
  pub remove_if : (p q : PassView) (key expected budget : ℕ) (refusal : Refusal) → SeesRun p.trace → Proceeds p.trace q.trace → CallsRemoveIf p q key expected budget (Err refusal)
      → enough_to_search_among (listed_for p.trace key) (most_unanswered p.trace) ≤ budget → AnotherIsAnswered p.trace q.trace
  pub insert_entry : (p q : PassView) (key value budget used : ℕ) → SeesRun p.trace → Proceeds p.trace q.trace → CallsInsert p q key value budget (Err (OutOfSteps used))
      → enough_to_insert_among (listed_for p.trace key) (most_unanswered p.trace) (steps_for_slot p q.trace) ≤ budget → AnotherIsAnswered p.trace q.trace
  pub store : (p q : PassView) (key value : ℕ) (wanted : Wanted) (budget used : ℕ) → SeesRun p.trace → Proceeds p.trace q.trace → CallsStore p q key value wanted budget (Err (OutOfSteps used))
      → enough_to_store_among (listed_for p.trace key) (most_unanswered p.trace) (steps_to_prepare wanted p q.trace) ≤ budget → AnotherIsAnswered p.trace q.trace

-- if each pass came back, the epoch, and the removed nodes that aren't retired, are together at most one more than the removes that were answered yes
abbrev pub EpochsArePaid : Type 0
EpochsArePaid = (p : PassView) → SeesRun p.trace → ((who : ℕ) → who < p.trace.passes → CameBack p.trace who)
    → (incarnations_after p.trace.start p.trace.seen).epoch + unretired_after p.trace.start p.trace.seen ≤ 1 + removes (calls_of p.trace.start p.trace.seen)

-- ---- what is enough

-- if each pass has at most one slot unlinked and not stamped, as when each unlinks in turn, that is twice the nodes that are marked, one for each pass, and one
abbrev pub FewUnanswered : Type 0
FewUnanswered = (p : PassView) → SeesRun p.trace → ((who : ℕ) → who < p.trace.passes → number_at p.trace.start p.trace.seen (Unstamped who) ≤ 1)
    → most_unanswered p.trace ≤ 2 * marked_after p.trace.start p.trace.seen + p.trace.passes + 1

-- whatever a pass has seen, it is at most two for each slot, and one; so the shape of the table gives what is enough, for an insert if the pass has a slot of its own
pub record ShapesTellEnough : Type 0 where
  pub look_up : (p : PassView) (key : ℕ) → enough_among (listed_for p.trace key) (most_unanswered p.trace) ≤ enough_among p.trace.start.shape.slots (2 * p.trace.start.shape.slots + 1)
  pub search : (p : PassView) (key : ℕ) → enough_to_search_among (listed_for p.trace key) (most_unanswered p.trace) ≤ enough_to_search_among p.trace.start.shape.slots (2 * p.trace.start.shape.slots + 1)
  pub insert : (p q : PassView) (key : ℕ) → p.pool ≢ []
      → enough_to_insert_among (listed_for p.trace key) (most_unanswered p.trace) (steps_for_slot p q.trace) ≤ enough_to_insert_among p.trace.start.shape.slots (2 * p.trace.start.shape.slots + 1) (POOL + 4)
