-- What the laws of a set say: the laws of tokens, and the laws of room.
use Rattle.std.specs.Prelude.{ℕ, ◌+◌, ◌-◌, ◌*◌, ◌<◌, ◌≤◌, Err, List, length, Option}
use Rattle.vbr_machine.specs.History.{set_after}
use Rattle.vbr_machine.specs.Keys.{AreKeysOf}
use Rattle.vbr_machine.specs.Nodes.{marked_after}
use Rattle.vbr_machine.specs.Opened.{opening_keys}
use Rattle.vbr_machine.specs.Runs.{Begins}
use Rattle.vbr_machine.specs.Whereabouts.{Unstamped, number_at}
use Rattle.vbr_machine.specs.declared.event.Event.{Event}
use Rattle.vbr_machine.specs.declared.event.Step.TheVariants.{ReadEpoch}
use Rattle.vbr_machine.specs.declared.history.Call.{Call}
use Rattle.vbr_machine.specs.declared.history.Op.{Op}
use Rattle.vbr_machine.specs.declared.history.Op.TheVariants.{Has, Insert, Remove}
use Rattle.vbr_slots.specs.steps.Alone.{IsAlone}
use Rattle.vbr_slots.specs.steps.Calls.{IsSame, Quiet}
use Rattle.vbr_slots.specs.steps.PassLaw.{PassLaw}
use Rattle.vbr_slots.specs.Tokens.{SeenView}
use Rattle.vbr_slots.specs.views.Views.{Did, KeepsPool, PassView, TableView, Trace, new_pass, new_trace}
use Rattle.vbr_slots.specs.declared.pass.TheConstants.{POOL}
use Rattle.vbr_at_table.specs.pools.GivingSlotsBack.{GivesSlotsBack}
use Rattle.vbr_at_table.specs.hands.KeptSlots.{UnlinkedInTurn}
use Rattle.vbr_at_table.specs.pools.Reserving.{TakesFlags}
use Rattle.vbr_at_table.specs.declared.aside.Aside.{Aside}
use Rattle.vbr_list.specs.calls.Budgets.{LacksSteps, listed_for}
use Rattle.vbr_list.specs.traversals.Disturbed.{enough_among, enough_to_insert_among, enough_to_search_among, enough_to_store_among, most_disturbed, steps_for_slot, steps_to_prepare}
use Rattle.vbr_list.specs.updates.Expecting.{CallsRemoveIf}
use Rattle.vbr_list.specs.calls.CallBounds.{Calls, CallsGet, CallsInsert, CallsRemove}
use Rattle.vbr_list.specs.updates.Storing.{CallsStore}
use Rattle.vbr_list.specs.declared.wanted.Wanted.{Wanted}
use Rattle.vbr_at_table.specs.declared.refusal.Refusal.{Refusal}
use Rattle.vbr_at_table.specs.declared.refusal.Refusal.TheVariants.{NoSlot}
use Rattle.vbr_set.specs.histories.Answers.{AnswersAll}
use Rattle.vbr_set.specs.histories.Histories.{calls_of}
use Rattle.vbr_set.specs.calls.MapCalls.{InsertRefused, IsCall, MapAnswersAll}
use Rattle.vbr_set.specs.calls.Members.{MemberView}
use Rattle.vbr_set.specs.whereabouts.Room.{AreTakenUp, HasAllSlots, OthersAreBetweenCalls, held_by_others}
use Rattle.vbr_set.specs.histories.Tokens.{CatchesUp, IsChain, IsTokenOf, Precedes, end_of}

-- ---- progress

-- a look-up that is refused had a budget below what is enough for so many updates, answered yes meanwhile, and advances of the epoch
abbrev pub LookUpsMakeProgress : Type 0
LookUpsMakeProgress = (p q : PassView) (key budget : ℕ) (refusal : Refusal) → PassLaw p → Calls Has p q key budget (Err refusal) → budget < enough_among (listed_for p.trace key) (most_disturbed p.trace q.trace)

-- likewise a remove
abbrev pub RemovesMakeProgress : Type 0
RemovesMakeProgress = (p q : PassView) (key budget : ℕ) (refusal : Refusal) → PassLaw p → Calls Remove p q key budget (Err refusal) → budget < enough_to_search_among (listed_for p.trace key) (most_disturbed p.trace q.trace)

-- and an insert that is refused for want of steps, whose own pool had a slot, or which took one out of the shared pool while others took so many
abbrev pub InsertsMakeProgress : Type 0
InsertsMakeProgress = (p q : PassView) (key budget : ℕ) (refusal : Refusal) → PassLaw p → Calls Insert p q key budget (Err refusal) → LacksSteps (enough_to_insert_among (listed_for p.trace key) (most_disturbed p.trace q.trace) (steps_for_slot p q.trace)) budget refusal

-- the same for the calls on a map: a remove by its value counts as a remove, and a store has five steps more than an insert for each time that it is disturbed, and two more if it compares
pub record MapsMakeProgress : Type 0 where
  pub get : (p q : PassView) (key budget : ℕ) (refusal : Refusal) → PassLaw p → CallsGet p q key budget (Err refusal)
      → budget < enough_among (listed_for p.trace key) (most_disturbed p.trace q.trace)
  pub remove_entry : (p q : PassView) (key budget : ℕ) (refusal : Refusal) → PassLaw p → CallsRemove p q key budget (Err refusal)
      → budget < enough_to_search_among (listed_for p.trace key) (most_disturbed p.trace q.trace)
  pub remove_if : (p q : PassView) (key expected budget : ℕ) (refusal : Refusal) → PassLaw p → CallsRemoveIf p q key expected budget (Err refusal)
      → budget < enough_to_search_among (listed_for p.trace key) (most_disturbed p.trace q.trace)
  pub insert_entry : (p q : PassView) (key value budget : ℕ) (refusal : Refusal) → PassLaw p → CallsInsert p q key value budget (Err refusal)
      → LacksSteps (enough_to_insert_among (listed_for p.trace key) (most_disturbed p.trace q.trace) (steps_for_slot p q.trace)) budget refusal
  pub store : (p q : PassView) (key value : ℕ) (wanted : Wanted) (budget : ℕ) (refusal : Refusal) → PassLaw p → CallsStore p q key value wanted budget (Err refusal)
      → LacksSteps (enough_to_store_among (listed_for p.trace key) (most_disturbed p.trace q.trace) (steps_to_prepare wanted p q.trace)) budget refusal

-- ---- tokens

-- a caller that catches up with the last token of a chain catches up with the first
abbrev pub TokensHandOn : Type 0
TokensHandOn =
    (set : TableView) (first : SeenView) (tokens : List SeenView) (p q : PassView)
    → IsChain first tokens → CatchesUp set p (end_of first tokens) q → CatchesUp set p first q

-- a call that was answered before a token was made stands before each call that is answered after somebody caught up with it, or with one further down its chain; and so do calls that were answered together
abbrev pub CallsStayInOrder : Type 0
CallsStayInOrder =
    (set : TableView) (ones others : List Call) (g h k : Trace) (first : SeenView) (tokens : List SeenView) (p q : PassView) (r s : Trace)
    → AnswersAll ones g h → IsSame h k → Begins h.seen k.seen → IsTokenOf set k first → IsChain first tokens
    → CatchesUp set p (end_of first tokens) q → IsSame q.trace r → Begins q.trace.seen r.seen → AnswersAll others r s
    → Precedes ones others (calls_of s.start s.seen)

-- what an answer leaves stands on while its pass makes no call, even if it takes slots or gives some back: the calls stand in the one legal history that the pass then has
pub record AnswersStay : Type 0 where
  pub set : (calls : List Call) (p : Trace) (q r : PassView) → PassLaw r → AnswersAll calls p q.trace → Quiet q.trace r.trace → AnswersAll calls p r.trace
  pub map : (calls : List Call) (p : Trace) (q r : PassView) → PassLaw r → MapAnswersAll calls p q.trace → Quiet q.trace r.trace → MapAnswersAll calls p r.trace

-- ---- room

-- a pass has all its slots when it is opened, and after each call on a set or a map, answered or refused, each meeting, each catching up, and each giving back, each reserve and each top-up of slots
pub record PassesHaveAllTheirSlots : Type 0 where
  pub opened : (set : TableView) (who : ℕ) → HasAllSlots (new_pass set who)
  pub called : (op : Op) (m n : MemberView) → HasAllSlots m.pass → IsCall op m n → HasAllSlots n.pass
  pub met : (p q : PassView) (epoch : ℕ) → HasAllSlots p → Did ReadEpoch p.trace q.trace epoch → KeepsPool p q → HasAllSlots q
  pub caught : (set : TableView) (p q : PassView) (token : SeenView) → HasAllSlots p → CatchesUp set p token q → HasAllSlots q
  pub gave : (p q : PassView) (shared : ℕ) → HasAllSlots p → GivesSlotsBack p q shared → HasAllSlots q
  pub reserved : (p q : PassView) (steps : ℕ) → HasAllSlots p → TakesFlags p q steps → HasAllSlots q

-- a pass has unlinked in turn when it is opened, and after each call on a set or a map, answered or refused, each meeting, each catching up, and each giving back, each reserve and each top-up of slots
pub record PassesUnlinkInTurn : Type 0 where
  pub opened : (set : TableView) (who : ℕ) → UnlinkedInTurn (new_trace set who)
  pub called : (op : Op) (m n : MemberView) → HasAllSlots m.pass → UnlinkedInTurn m.pass.trace → IsCall op m n → UnlinkedInTurn n.pass.trace
  pub met : (p q : Trace) (epoch : ℕ) → UnlinkedInTurn p → Did ReadEpoch p q epoch → UnlinkedInTurn q
  pub caught : (set : TableView) (p q : PassView) (token : SeenView) → UnlinkedInTurn p.trace → CatchesUp set p token q → UnlinkedInTurn q.trace
  pub gave : (p q : PassView) (shared : ℕ) → HasAllSlots p → UnlinkedInTurn p.trace → GivesSlotsBack p q shared → UnlinkedInTurn q.trace
  pub reserved : (p q : PassView) (steps : ℕ) → HasAllSlots p → UnlinkedInTurn p.trace → TakesFlags p q steps → UnlinkedInTurn q.trace

-- a pass that has unlinked in turn had at most one slot unlinked and not yet stamped at each moment of what it has seen
abbrev pub OneUnstampedAtEachMoment : Type 0
OneUnstampedAtEachMoment = (p : Trace) (moment : List Event) → UnlinkedInTurn p → Begins moment p.seen → number_at p.start moment (Unstamped p.who) ≤ 1

-- a pass that has all its slots was answered that there is no slot for an insert or a store, and no other pass made a step meanwhile
pub record RefusedAlone (m n : MemberView) (key budget : ℕ) : Type 0 where
  pub law : PassLaw n.pass
  pub has_all : HasAllSlots m.pass
  pub refused : InsertRefused m n key budget NoSlot
  pub alone : IsAlone m.pass.trace n.pass.trace

-- an insert or a store that is alone finds no slot only if all slots are taken up
abbrev pub NoSlotAlone : Type 0
NoSlotAlone = (m n : MemberView) (key budget : ℕ) → RefusedAlone m n key budget → AreTakenUp n.pass.trace

-- besides, if each other pass stands between two calls, all slots but 64 for each other pass, and one for each that holds a slot, have a key of the set or a marked node
abbrev pub SlotsThatSuffice : Type 0
SlotsThatSuffice =
    (m n : MemberView) (key budget : ℕ) (keys : List ℕ) (aside : ℕ → Option Aside) → RefusedAlone m n key budget
    → OthersAreBetweenCalls aside n.pass.trace
    → AreKeysOf keys (set_after (opening_keys n.pass.trace.start) (calls_of n.pass.trace.start n.pass.trace.seen))
    → n.pass.trace.start.shape.slots ≤ length keys + marked_after n.pass.trace.start n.pass.trace.seen + (POOL * (n.pass.trace.passes - 1) + held_by_others aside n.pass.trace)
