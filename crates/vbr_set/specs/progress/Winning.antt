-- How many slots other passes take out of the shared pool while no update is answered, and what is then enough for a pass that has none.
use Rattle.std.specs.Prelude.{◌≡◌, ◌≢◌, ℕ, ◌+◌, ◌-◌, ◌*◌, ◌≤◌, ◌<◌, ◌==◌, ◌&&◌, not, ◌⊎◌, Bool, true, false, List, [], ◌∷◌, length, Err}
use Rattle.vbr_machine.specs.Disturbances.{one_if}
use Rattle.vbr_machine.specs.Runs.{Begins, BeginsFor}
use Rattle.vbr_machine.specs.Whereabouts.{sum_of}
use Rattle.vbr_machine.specs.declared.event.Step.TheVariants.{ReadEpoch}
use Rattle.vbr_machine.specs.declared.history.Call.{Call}
use Rattle.vbr_machine.specs.declared.history.Op.{Op}
use Rattle.vbr_machine.specs.declared.history.Op.TheVariants.{Insert}
use Rattle.vbr_slots.specs.steps.PassLaw.{PassLaw}
use Rattle.vbr_slots.specs.Tokens.{SeenView}
use Rattle.vbr_slots.specs.views.Views.{Did, KeepsPool, PassView, TableView, Trace}
use Rattle.vbr_at_table.specs.costs.Budgets.{most_to_take_among}
use Rattle.vbr_at_table.specs.costs.FlagsInNeed.{times_beyond}
use Rattle.vbr_at_table.specs.costs.Gained.{gained}
use Rattle.vbr_at_table.specs.pools.GivingSlotsBack.{GivesSlotsBack}
use Rattle.vbr_at_table.specs.hands.KeptSlots.{TakesNoSlot}
use Rattle.vbr_at_table.specs.pools.Reserving.{TakesFlags}
use Rattle.vbr_list.specs.calls.Budgets.{listed_for}
use Rattle.vbr_list.specs.calls.CallBounds.{Calls, CallsInsert}
use Rattle.vbr_list.specs.look_ups.Cursors.{SeesMore}
use Rattle.vbr_list.specs.traversals.Disturbed.{enough_to_insert_among, enough_to_store_among}
use Rattle.vbr_list.specs.updates.Storing.{CallsStore}
use Rattle.vbr_list.specs.updates.Wanted.{steps_to_compare}
use Rattle.vbr_list.specs.declared.wanted.Wanted.{Wanted}
use Rattle.vbr_at_table.specs.declared.refusal.Refusal.TheVariants.{OutOfSteps}
use Rattle.vbr_set.specs.histories.Histories.{calls_of}
use Rattle.vbr_set.specs.calls.MapCalls.{IsCall}
use Rattle.vbr_set.specs.calls.Members.{MemberView}
use Rattle.vbr_set.specs.progress.Progressing.{AnotherIsAnswered, Proceeds, SeesRun, most_unanswered}
use Rattle.vbr_set.specs.whereabouts.Room.{HasAllSlots}
use Rattle.vbr_set.specs.progress.Stretches.{inserts_begun}
use Rattle.vbr_set.specs.histories.Tokens.{CatchesUp}

-- ---- what one pass did

-- a pass came from one view to another, and went beyond its need no more than so often: it won a flag though it had a slot, or put a slot into the shared pool that was its last
pub record CameInNeed (beyond : ℕ) (p q : PassView) : Type 0 where
  pub sees : SeesMore p.trace q.trace
  pub few : times_beyond q.trace ≤ times_beyond p.trace + beyond

-- it came so by each call on a set or a map, answered or refused, by what goes over keys, by each meeting and each catching up, never beyond its need; by giving back at most once; by each reserve and each top-up at most once for each slot that it took; and by one such way after another
-- A pass that may lack slots, such as one that gave them up, wins at most one flag beyond its need by each insert.
pub record PassesWinInNeed : Type 0 where
  pub stays : (p : PassView) → PassLaw p → CameInNeed 0 p p
  pub called : (op : Op) (m n : MemberView) → PassLaw m.pass → HasAllSlots m.pass → IsCall op m n → CameInNeed 0 m.pass n.pass
  pub called_lacking : (op : Op) (m n : MemberView) → PassLaw m.pass → IsCall op m n → CameInNeed (inserts_begun op) m.pass n.pass
  pub went_over : (p q : PassView) → SeesMore p.trace q.trace → TakesNoSlot p q → CameInNeed 0 p q
  pub met : (p q : PassView) (epoch : ℕ) → Did ReadEpoch p.trace q.trace epoch → KeepsPool p q → CameInNeed 0 p q
  pub caught : (set : TableView) (p q : PassView) (token : SeenView) → CatchesUp set p token q → CameInNeed 0 p q
  pub gave : (p q : PassView) (shared : ℕ) → PassLaw p → GivesSlotsBack p q shared → CameInNeed 1 p q
  pub reserved : (p q : PassView) (steps : ℕ) → PassLaw p → TakesFlags p q steps → CameInNeed (length q.pool - length p.pool) p q
  pub after : (first then : ℕ) (p q r : PassView) → CameInNeed first p q → CameInNeed then q r → CameInNeed (first + then) p r

-- ---- what the other passes did

-- a pass of this number went beyond its need no more than so often in a stretch: after one of its calls it had seen no more than the beginning of the stretch, and after another all of it
pub record WentBeyond (p q : Trace) (who beyond : ℕ) : Type 0 where
  pub from : PassView
  pub to : PassView
  pub is : from.trace.who ≡ who
  pub start : from.trace.start ≡ p.start
  pub earlier : Begins from.trace.seen p.seen
  pub later : Begins q.seen to.trace.seen
  pub came : CameInNeed beyond from to

-- each other pass of the set stood still in the stretch, wherever it did, or came through it so; together they went beyond their need no more than so often
pub record OthersComeInNeed (p q : Trace) (beyond : ℕ) : Type 0 where
  pub each : ℕ → ℕ
  pub others : (who : ℕ) → who < p.passes → who ≢ p.who → BeginsFor who p.seen q.seen ⊎ WentBeyond p q who (each who)
  pub all : sum_of p.passes each ≤ beyond

-- ---- inserts of others

-- whether an operation is an insert
abbrev pub is_insertion : Op → Bool
is_insertion Insert = true
is_insertion _ = false

-- how many of these calls are inserts of callers other than one that were answered yes
abbrev pub inserts_of_others : ℕ → List Call → ℕ
inserts_of_others who [] = 0
inserts_of_others who (call ∷ calls) = one_if (not (call.who == who) && (is_insertion call.op && call.reply)) + inserts_of_others who calls

-- and how many were made since
abbrev pub others_inserted : Trace → Trace → ℕ
others_inserted p q = inserts_of_others p.who (calls_of p.start q.seen) - inserts_of_others p.who (calls_of p.start p.seen)

-- ---- laws

-- how many slots the other passes can take out of the shared pool while no insert of theirs is answered yes: one each, and one for each time that they go beyond their need
abbrev pub most_gained : Trace → ℕ → ℕ
most_gained p beyond = (p.passes - 1) + beyond

-- if each of them never went beyond its need, together they never did
abbrev pub NobodyGoesBeyond : Type 0
NobodyGoesBeyond = (p q : Trace) → ((who : ℕ) → who < p.passes → who ≢ p.who → BeginsFor who p.seen q.seen ⊎ WentBeyond p q who 0) → OthersComeInNeed p q 0

-- they take no more than that, and one more for each insert of theirs that is answered yes
abbrev pub InsertsPayForGains : Type 0
InsertsPayForGains = (p q : PassView) (beyond : ℕ) → SeesRun p.trace → SeesMore p.trace q.trace → OthersComeInNeed p.trace q.trace beyond
    → gained p.trace q.trace ≤ most_gained p.trace beyond + others_inserted p.trace q.trace

-- the most steps in which a call takes a slot while no insert of others is answered, and in which a store does, which may read the value before: by what is known as the call begins
abbrev pub known_steps_for_slot : PassView → ℕ → ℕ
known_steps_for_slot p beyond = most_to_take_among p.trace.start p.pool (most_gained p.trace beyond)

abbrev pub known_steps_to_prepare : Wanted → PassView → ℕ → ℕ
known_steps_to_prepare wanted p beyond = known_steps_for_slot p beyond + steps_to_compare wanted

-- an insert or a store with a budget that is enough with that many steps, whatever is in its own pool, is refused for want of steps only if another pass was answered meanwhile
pub record KnownBudgetsShowAnswers : Type 0 where
  pub insert : (p q : PassView) (beyond key budget used : ℕ) → SeesRun p.trace → Proceeds p.trace q.trace → OthersComeInNeed p.trace q.trace beyond
      → Calls Insert p q key budget (Err (OutOfSteps used))
      → enough_to_insert_among (listed_for p.trace key) (most_unanswered p.trace) (known_steps_for_slot p beyond) ≤ budget → AnotherIsAnswered p.trace q.trace
  pub insert_entry : (p q : PassView) (beyond key value budget used : ℕ) → SeesRun p.trace → Proceeds p.trace q.trace → OthersComeInNeed p.trace q.trace beyond
      → CallsInsert p q key value budget (Err (OutOfSteps used))
      → enough_to_insert_among (listed_for p.trace key) (most_unanswered p.trace) (known_steps_for_slot p beyond) ≤ budget → AnotherIsAnswered p.trace q.trace
  pub store : (p q : PassView) (beyond key value : ℕ) (wanted : Wanted) (budget used : ℕ) → SeesRun p.trace → Proceeds p.trace q.trace → OthersComeInNeed p.trace q.trace beyond
      → CallsStore p q key value wanted budget (Err (OutOfSteps used))
      → enough_to_store_among (listed_for p.trace key) (most_unanswered p.trace) (known_steps_to_prepare wanted p beyond) ≤ budget → AnotherIsAnswered p.trace q.trace

-- whatever a pass has seen, and whatever is in its own pool, the shape of the table and the number of passes give what is enough
pub record ShapesTellWithoutSlots : Type 0 where
  pub insert : (p : PassView) (beyond key : ℕ)
      → enough_to_insert_among (listed_for p.trace key) (most_unanswered p.trace) (known_steps_for_slot p beyond)
      ≤ enough_to_insert_among p.trace.start.shape.slots (2 * p.trace.start.shape.slots + 1) (most_to_take_among p.trace.start [] (most_gained p.trace beyond))
  pub store : (p : PassView) (wanted : Wanted) (beyond key : ℕ)
      → enough_to_store_among (listed_for p.trace key) (most_unanswered p.trace) (known_steps_to_prepare wanted p beyond)
      ≤ enough_to_store_among p.trace.start.shape.slots (2 * p.trace.start.shape.slots + 1) (most_to_take_among p.trace.start [] (most_gained p.trace beyond) + steps_to_compare wanted)
