-- How the lines of a script are called on a set or a map, what that costs, and what each reply means.
use Rattle.std.specs.Prelude.{◌≡◌, ◌≢◌, ℕ, zero, suc, ◌+◌, ◌-◌, ◌*◌, ◌<◌, ◌≤◌, Bool, true, false, List, [], ◌∷◌, length, All, Option, Some, None, Result, Ok, Err}
use Rattle.vbr_machine.specs.Start.{Start}
use Rattle.vbr_machine.specs.Runs.{BeginsFor}
use Rattle.vbr_machine.specs.declared.event.Event.{Event}
use Rattle.vbr_machine.specs.declared.history.Op.{Op}
use Rattle.vbr_machine.specs.declared.history.Op.TheVariants.{Insert, Remove, Has, Get}
use Rattle.vbr_slots.specs.views.Views.{PassView, TableView, new_pass, steps_in}
use Rattle.vbr_at_table.specs.declared.refusal.Refusal.{Refusal}
use Rattle.vbr_at_table.specs.declared.refusal.Refusal.TheVariants.{OutOfSteps, NoSlot, EpochSpent}
use Rattle.vbr_set.specs.calls.MapCalls.{GetsEntry, InsertsEntry, RemovesEntry}
use Rattle.vbr_set.specs.histories.Meetings.{HasMet}
use Rattle.vbr_set.specs.calls.Members.{Called, MemberView, as_member}
use Rattle.vbr_set.specs.Names.{enough_past, most_to_take}
use Rattle.vbr_script.specs.declared.script.Kind.{Kind}
use Rattle.vbr_script.specs.declared.script.Kind.TheVariants.{Set, Map}
use Rattle.vbr_transcript.specs.Calls.{Outcome, outcomes_by}
use Rattle.vbr_transcript.specs.declared.reply.Reply.{Reply}
use Rattle.vbr_transcript.specs.declared.reply.Reply.TheVariants.{Yes, Value, No, Full, Spent, Tired}

-- the reply that a refusal is
abbrev pub reply_refused : Refusal → Reply
reply_refused (OutOfSteps used) = Tired
reply_refused NoSlot = Full
reply_refused (EpochSpent epoch) = Spent

-- the reply that an answer of yes or no is
abbrev pub reply_told : Result Bool Refusal → Reply
reply_told (Ok true) = Yes
reply_told (Ok false) = No
reply_told (Err refusal) = reply_refused refusal

-- the reply that an answer is whose yes gives a value
abbrev pub reply_given : Result (Option ℕ) Refusal → Reply
reply_given (Ok (Some value)) = Value value
reply_given (Ok None) = No
reply_given (Err refusal) = reply_refused refusal

-- the call that an operation asks of a map, for a key and with a value, was made with the budget, and the reply is its answer: an insert stores the value, and a remove and a get return the one that was stored
abbrev pub IsMapCalled : Op → ℕ → ℕ → ℕ → Reply → MemberView → MemberView → Type 0
IsMapCalled Insert key value budget reply m n = (answer : Result Bool Refusal) × InsertsEntry m n key value budget answer × (reply ≡ reply_told answer)
IsMapCalled Remove key value budget reply m n = (answer : Result (Option ℕ) Refusal) × RemovesEntry m n key budget answer × (reply ≡ reply_given answer)
IsMapCalled Has key value budget reply m n = (answer : Result Bool Refusal) × Called Has m n key budget answer × (reply ≡ reply_told answer)
IsMapCalled Get key value budget reply m n = (answer : Result (Option ℕ) Refusal) × GetsEntry m n key budget answer × (reply ≡ reply_given answer)

-- the call that a line asks for was made with the budget, and the reply is its answer
abbrev pub IsCalled : Kind → ℕ → Outcome → MemberView → MemberView → Type 0
IsCalled Set budget outcome m n = (answer : Result Bool Refusal) × Called outcome.0.op m n outcome.0.key budget answer × (outcome.1 ≡ reply_told answer)
IsCalled Map budget outcome m n = IsMapCalled outcome.0.op outcome.0.key outcome.0.value budget outcome.1 m n

-- a caller met others of its set or map, so often, and did nothing else
abbrev pub HasMetOften : ℕ → MemberView → MemberView → Type 0
HasMetOften zero m n = n ≡ m
HasMetOften (suc times) m n = (l : MemberView) × HasMetOften times m l × (n.set ≡ l.set) × (other : PassView) × HasMet l.pass other n.pass

-- a caller made the calls of lines, one after the other; before each, and after the last, it may have met others, and it did nothing else
abbrev pub CallsInTurn : Kind → ℕ → List Outcome → MemberView → MemberView → Type 0
CallsInTurn kind budget [] m n = (times : ℕ) × HasMetOften times m n
CallsInTurn kind budget (outcome ∷ outcomes) m n = (times : ℕ) × (p : MemberView) × HasMetOften times m p × (q : MemberView) × IsCalled kind budget outcome p q × CallsInTurn kind budget outcomes q n

-- a worker played its outcomes on a set or a map: by the pass with its number, from the opening on; the run begins with what the pass has seen, and has no other step of it
pub record PlaysOwn (kind : Kind) (set : TableView) (budget : ℕ) (outcomes : List Outcome) (run : List Event) (who : ℕ) : Type 0 where
  pub last : MemberView
  pub calls : CallsInTurn kind budget outcomes (as_member set (new_pass set who)) last
  pub seen : BeginsFor who last.pass.trace.seen run

-- a budget that suffices each call of a lone worker, even if each slot has a node of the key's bucket
abbrev pub ample : Start → ℕ
ample start = enough_past start.shape.slots (most_to_take start [])

-- workers played outcomes on a set or a map, in so many phases: each played its own, and made no more steps than the budget for each of them, and one for each phase and other worker; and none was refused to a lone worker for want of steps, if the budget is ample
pub record ArePlayed (kind : Kind) (workers budget : ℕ) (start : Start) (phases : ℕ) (outcomes : List Outcome) (run : List Event) : Type 0 where
  pub set : TableView
  pub shaped : set.start ≡ start
  pub counted : set.passes ≡ workers
  pub own : (who : ℕ) → who < workers → PlaysOwn kind set budget (outcomes_by who outcomes) run who
  pub steps : (who : ℕ) → who < workers → steps_in who run ≤ budget * length (outcomes_by who outcomes) + (workers - 1) * phases
  pub untired : workers ≡ 1 → ample start ≤ budget → All (λ outcome. outcome.1 ≢ Tired) outcomes
