-- The stores of a map by a slot in hand: a put, and a replacement of one entry.
use Rattle.std.specs.Prelude.{◌≡◌, ◌≢◌, ◌≤◌, ℕ, Bool, true, false, List, [], length, Option, Some, None, Result, Ok, Err, IfOk, IfErr}
use Rattle.vbr_machine.specs.declared.history.Call.{Call}
use Rattle.vbr_slots.specs.declared.pass.TheConstants.{POOL}
use Rattle.vbr_slots.specs.steps.Calls.{IsSame, Quiet}
use Rattle.vbr_slots.specs.views.Views.{PassView, Trace}
use Rattle.vbr_at_table.specs.hands.Aside.{EmptiesHand, KeepsAllButHand}
use Rattle.vbr_at_table.specs.hands.Hands.{HandView, IsHandOf}
use Rattle.vbr_at_table.specs.Soundness.{HasSafeRun}
use Rattle.vbr_at_table.specs.declared.refusal.Refusal.{Refusal}
use Rattle.vbr_at_table.specs.declared.refusal.Refusal.TheVariants as refusing
use Rattle.vbr_list.specs.updates.Holding.{PutsHeld, ReplacesHeldEntry}
use Rattle.vbr_list.specs.updates.Storing.{storing_calls}
use Rattle.vbr_list.specs.declared.entries.Entry.{Entry}
use Rattle.vbr_list.specs.declared.holding.NotReplaced.{NotReplaced}
use Rattle.vbr_list.specs.declared.holding.NotReplaced.TheVariants.{Other, OutOfSteps}
use Rattle.vbr_set.specs.histories.Answers.{AnswerAlone}
use Rattle.vbr_set.specs.calls.MapCalls.{MapAnswersAll}
use Rattle.vbr_set.specs.calls.Members.{CalledBy, MemberView}
use Rattle.vbr_set.specs.calls.RecordCalls.{aside_left, aside_of}
use Rattle.vbr_set.specs.declared.record_refusals.HeldRefusal.{HeldRefusal}
use Rattle.vbr_set.specs.declared.record_refusals.HeldRefusal.TheVariants as held

-- a store by a slot in hand is answered as other stores are: if it was answered, its calls leave what answers leave, and alone they have the replies of a plain set; otherwise no call was made
pub record AnswersStored {A : Type 0} (told : ℕ → A → List Call) (p q : Trace) (answer : Result A Refusal) : Type 0 where
  pub same : IsSame p q
  pub answers : IfOk answer (λ reply. MapAnswersAll (told p.who reply) p q)
  pub alone : IfOk answer (λ reply. AnswerAlone p (told p.who reply))
  pub quiet : IfErr answer (λ refusal. Quiet p q)
  pub safe : HasSafeRun q

-- ---- a put

-- the result, as the answer of a store
abbrev pub as_put : Result (Option ℕ) (HandView × ℕ) → Result (Option ℕ) Refusal
as_put (Ok there) = Ok there
as_put (Err left) = Err (refusing.OutOfSteps left.1)

-- its calls, by what was there: a remove of the value, if there was one, and an insert of the new one
abbrev pub put_told : ℕ → ℕ → ℕ → Option ℕ → List Call
put_told key value who there = storing_calls who key value there

-- a pass puts by the slot in its hand, which is then published, or still in hand
pub record PutsByHeld (p q : PassView) (key value budget : ℕ) (hand : HandView) (came : Result (Option ℕ) (HandView × ℕ)) : Type 0 where
  pub puts : PutsHeld p q key value budget hand came
  pub answers : AnswersStored (put_told key value) p.trace q.trace (as_put came)

-- ---- a replacement of one entry

-- the result, as the answer of a store: this value was there, or the entry wasn't
abbrev pub as_replaced : {T : Type 0} → ℕ → Result T (HandView × NotReplaced) → Result (Option ℕ) Refusal
as_replaced old (Ok done) = Ok (Some old)
as_replaced old (Err (hand, Other)) = Ok None
as_replaced old (Err (hand, OutOfSteps used)) = Err (refusing.OutOfSteps used)

-- its calls: a remove of the value that was there, and an insert of the new one; none if the entry wasn't there
abbrev pub replaced_told : ℕ → ℕ → ℕ → Option ℕ → List Call
replaced_told key value who None = []
replaced_told key value who (Some old) = storing_calls who key value (Some old)

-- a pass replaces an entry by the slot in its hand, which is then published, or still in hand
pub record ReplacesByHeld {T : Type 0} (p q : PassView) (key value budget : ℕ) (hand : HandView) (entry : Entry) (came : Result T (HandView × NotReplaced)) : Type 0 where
  pub replaces : ReplacesHeldEntry p q key value budget hand entry came
  pub old : ℕ
  pub answers : AnswersStored (replaced_told key value) p.trace q.trace (as_replaced old came)

-- ---- by the slot that a member holds

-- the pass took up the slot that the member held, and did this with it; then the slot is published, or still held
pub record TakesUp {T E : Type 0} (Does : PassView → PassView → HandView → Result T E → Type 0) (m n : MemberView) : Type 0 where
  pub hand : HandView
  pub was : m.aside ≡ Some (aside_of hand)
  pub first : PassView
  pub up : KeepsAllButHand m.pass first
  pub is : IsHandOf first hand
  pub back : PassView
  pub came : Result T E
  pub does : Does first back hand came
  pub ends : EmptiesHand back n.pass
  pub left : n.aside ≡ aside_left came m.aside

-- if the member holds no slot, or its own pool is full, nothing was done; otherwise this is so
abbrev pub WhereHeld : {A : Type 0} → (Result A HeldRefusal → Type 0) → MemberView → MemberView → Result A HeldRefusal → Type 0
WhereHeld So m n (Err held.NotHeld) = (n ≡ m) × (m.aside ≡ None)
WhereHeld So m n (Err held.Full) = (n ≡ m) × (m.aside ≢ None) × (POOL ≤ length m.pass.pool)
WhereHeld So m n answer = So answer

-- the result of a put, as the answer of a member
abbrev pub put_answer : Result (Option ℕ) (HandView × ℕ) → Result (Option ℕ) HeldRefusal
put_answer (Ok there) = Ok there
put_answer (Err left) = Err (held.OutOfSteps left.1)

-- it put by the slot that it held, and is answered as other puts are
pub record PutsAside (m n : MemberView) (key value budget : ℕ) (answer : Result (Option ℕ) HeldRefusal) : Type 0 where
  pub by : TakesUp (λ p q hand came. PutsByHeld p q key value budget hand came) m n
  pub called : CalledBy MapAnswersAll (put_told key value m.pass.trace.who) (λ so. Unit {0}) m n budget (as_put by.came)
  pub replies : answer ≡ put_answer by.came

abbrev pub PutsHeldBy : MemberView → MemberView → ℕ → ℕ → ℕ → Result (Option ℕ) HeldRefusal → Type 0
PutsHeldBy m n key value budget answer = WhereHeld (PutsAside m n key value budget) m n answer

-- why an entry wasn't replaced, as the answer of a member
abbrev pub answer_unreplaced : NotReplaced → Result Bool HeldRefusal
answer_unreplaced Other = Ok false
answer_unreplaced (OutOfSteps used) = Err (held.OutOfSteps used)

-- the result of a replacement, as the answer of a member
abbrev pub replaced_answer : {T : Type 0} → Result T (HandView × NotReplaced) → Result Bool HeldRefusal
replaced_answer (Ok done) = Ok true
replaced_answer (Err told) = answer_unreplaced told.1

-- it replaced an entry by the slot that it held, and is answered as other stores are; or the entry wasn't there, and it made no call
pub record ReplacesAside (m n : MemberView) (key value budget : ℕ) (entry : Entry) (answer : Result Bool HeldRefusal) : Type 0 where
  pub by : TakesUp (λ p q hand (came : Result (Unit {0}) (HandView × NotReplaced)). ReplacesByHeld p q key value budget hand entry came) m n
  pub called : CalledBy MapAnswersAll (replaced_told key value m.pass.trace.who) (λ so. Unit {0}) m n budget (as_replaced by.does.old by.came)
  pub replies : answer ≡ replaced_answer by.came

abbrev pub ReplacesHeldBy : MemberView → MemberView → ℕ → ℕ → ℕ → Entry → Result Bool HeldRefusal → Type 0
ReplacesHeldBy m n key value budget entry answer = WhereHeld (ReplacesAside m n key value budget entry) m n answer
