-- The calls on a set or a map for a program that keeps a record of its own beside each slot.
use Rattle.std.specs.Prelude.{◌≡◌, ℕ, Bool, Option, Result, ◌≢◌, ◌≤◌, true, false, List, [], ◌∷◌, length, Some, None, Ok, Err, IfOk, IfErr, is_some}
use Rattle.vbr_at_table.specs.hands.Hands.{HandView, IsHandOf}
use Rattle.vbr_machine.specs.History.{set_call}
use Rattle.vbr_machine.specs.declared.history.Call.{Call}
use Rattle.vbr_machine.specs.declared.history.Op.TheVariants.{Get, Has, Insert}
use Rattle.vbr_slots.specs.declared.pass.TheConstants.{POOL}
use Rattle.vbr_slots.specs.steps.Calls.{IsSame, Quiet}
use Rattle.vbr_slots.specs.views.Views.{PassView, Trace}
use Rattle.vbr_at_table.specs.hands.Aside.{EmptiesHand, KeepsAllButHand}
use Rattle.vbr_at_table.specs.reads.Reading.{ReadsIn}
use Rattle.vbr_at_table.specs.pools.Refusals.{RefusesTake}
use Rattle.vbr_at_table.specs.Soundness.{HasSafeRun}
use Rattle.vbr_at_table.specs.pools.Taking.{Takes}
use Rattle.vbr_at_table.specs.declared.aside.Aside.{Aside}
use Rattle.vbr_at_table.specs.declared.refusal.Refusal.{Refusal}
use Rattle.vbr_list.specs.named_entries.Entries.{HasNoValue, TellsStill, WasThereIf, steps_to_ask, value_of_entry}
use Rattle.vbr_list.specs.updates.Holding.{InsertsHeld, HoldsSlot}
use Rattle.vbr_at_table.specs.declared.refusal.Refusal.TheVariants as refusing
use Rattle.vbr_list.specs.calls.CallBounds.{BoundsOfLookUp}
use Rattle.vbr_list.specs.calls.Told.{given_call, stored_call}
use Rattle.vbr_list.specs.declared.entries.Entry.{Entry}
use Rattle.vbr_list.specs.declared.holding.StillInHand.{StillInHand}
use Rattle.vbr_list.specs.declared.holding.StillInHand.TheVariants.{Present, OutOfSteps}
use Rattle.vbr_set.specs.histories.Answers.{AnswerAlone, AnswersAll}
use Rattle.vbr_set.specs.calls.MapCalls.{MapAnswersAll}
use Rattle.vbr_set.specs.calls.Members.{CalledBy, CallerView, CallsBy, MemberView, caller, one}
use Rattle.vbr_set.specs.declared.record_refusals.HeldRefusal.{HeldRefusal}
use Rattle.vbr_set.specs.declared.record_refusals.HeldRefusal.TheVariants as held
use Rattle.vbr_set.specs.declared.record_refusals.HoldRefusal.{HoldRefusal}
use Rattle.vbr_set.specs.declared.record_refusals.HoldRefusal.TheVariants as holding

-- ---- entries

-- a get that gives the entry is answered like the get of its value, and the entry was in the map with this value at a moment of the call
pub record GetsNamed (c d : CallerView) (key budget : ℕ) (answer : Result (Option Entry) Refusal) : Type 0 where
  pub gets : CallsBy MapAnswersAll (one (λ entry. given_call c.pass.trace.who Get key (value_of_entry entry))) (BoundsOfLookUp (λ entry. given_call c.pass.trace.who Get key (value_of_entry entry)) 2 c.pass d.pass key budget) c d budget answer
  pub there : IfOk answer (WasThereIf true c.pass.trace d.pass.trace key)

-- a look-up of a set that gives the entry, with no value, is answered like a look-up, and the entry was in the set at a moment of the call
pub record HasNamed (c d : CallerView) (key budget : ℕ) (answer : Result (Option Entry) Refusal) : Type 0 where
  pub looks : CallsBy AnswersAll (one (λ entry. set_call c.pass.trace.who Has key (is_some entry))) (BoundsOfLookUp (λ entry. set_call c.pass.trace.who Has key (is_some entry)) 0 c.pass d.pass key budget) c d budget answer
  pub there : IfOk answer (WasThereIf false c.pass.trace d.pass.trace key)
  pub zero : IfOk answer HasNoValue

-- the same for members
abbrev pub FindsEntry : MemberView → MemberView → ℕ → ℕ → Result (Option Entry) Refusal → Type 0
FindsEntry m n key budget answer = GetsNamed (caller m) (caller n) key budget answer

abbrev pub FindsKey : MemberView → MemberView → ℕ → ℕ → Result (Option Entry) Refusal → Type 0
FindsKey m n key budget answer = HasNamed (caller m) (caller n) key budget answer

-- it asked in one step, a load, whether the slot of an entry is still its own, or in none if the slot isn't one of the shape; and the answer says what the slot showed
pub record AsksBy (c d : CallerView) (entry : Entry) (answer : Bool) : Type 0 where
  pub set : d.set ≡ c.set
  pub reads : ReadsIn c.pass d.pass (steps_to_ask c.pass.trace entry)
  pub tells : TellsStill c.pass d.pass entry answer
  pub safe : HasSafeRun d.pass.trace

-- the same for a member
abbrev pub AsksStill : MemberView → MemberView → Entry → Bool → Type 0
AsksStill m n entry answer = AsksBy (caller m) (caller n) entry answer

-- ---- an insert by a slot in hand

-- the call that a reply stands for: at a set, and at a map
abbrev pub insert_told : ℕ → Trace → Bool → List Call
insert_told key p reply = set_call p.who Insert key reply ∷ []

abbrev pub store_told : ℕ → ℕ → Trace → Bool → List Call
store_told key value p reply = stored_call p.who key value reply ∷ []

-- the result, as the answer of an insert
abbrev pub as_answer : {T : Type 0} → Result T (HandView × StillInHand) → Result Bool Refusal
as_answer (Ok done) = Ok true
as_answer (Err (hand, Present)) = Ok false
as_answer (Err (hand, OutOfSteps used)) = Err (refusing.OutOfSteps used)

-- it is answered as other inserts are: if it was answered, its call leaves what answers leave, and alone it has the reply of a plain set; otherwise no call was made
pub record AnswersByHeld {T : Type 0} (Leave : List Call → Trace → Trace → Type 0) (told : Trace → Bool → List Call) (p q : Trace) (came : Result T (HandView × StillInHand)) : Type 0 where
  pub same : IsSame p q
  pub answers : IfOk (as_answer came) (λ reply. Leave (told p reply) p q)
  pub alone : IfOk (as_answer came) (λ reply. AnswerAlone p (told p reply))
  pub quiet : IfErr (as_answer came) (λ refusal. Quiet p q)
  pub safe : HasSafeRun q

-- the same for a pass, which publishes the slot in its hand or still has it there
pub record InsertsByHeld {T : Type 0} (Leave : List Call → Trace → Trace → Type 0) (told : Trace → Bool → List Call) (p q : PassView) (key value budget : ℕ) (hand : HandView) (came : Result T (HandView × StillInHand)) : Type 0 where
  pub inserts : InsertsHeld p q key value budget hand came
  pub answers : AnswersByHeld Leave told p.trace q.trace came

-- ---- a slot that a member holds

-- the slot of what is put aside
abbrev pub slot_aside : Option Aside → Option ℕ
slot_aside None = None
slot_aside (Some aside) = Some aside.slot

-- what is put aside of a hand
abbrev pub aside_of : HandView → Aside
aside_of hand = record { slot = hand.slot; birth = hand.birth }

-- the member had put no slot aside; its pass took one, which is then put aside
pub record HoldsAside (m n : MemberView) (budget slot : ℕ) : Type 0 where
  pub none : m.aside ≡ None
  pub back : PassView
  pub takes : Takes m.pass back budget
  pub hand : HandView
  pub holds : HoldsSlot m.pass back hand
  pub ends : EmptiesHand back n.pass
  pub put : n.aside ≡ Some (aside_of hand)
  pub told : slot ≡ hand.slot

-- a hold: at most one slot is held; if none was taken, none is
abbrev pub TakesAside : MemberView → MemberView → ℕ → Result ℕ HoldRefusal → Type 0
TakesAside m n budget (Ok slot) = HoldsAside m n budget slot
TakesAside m n budget (Err holding.Held) = (n ≡ m) × (m.aside ≢ None)
TakesAside m n budget (Err (holding.Refused refusal)) = (m.aside ≡ None) × (n.aside ≡ None) × Takes m.pass n.pass budget × RefusesTake m.pass n.pass budget refusal

-- why the slot is still in hand, as the answer of a member
abbrev pub answer_held : StillInHand → Result Bool HeldRefusal
answer_held Present = Ok false
answer_held (OutOfSteps used) = Err (held.OutOfSteps used)

-- the result of an insert by a slot in hand, as the answer of a member
abbrev pub held_answer : {T : Type 0} → Result T (HandView × StillInHand) → Result Bool HeldRefusal
held_answer (Ok done) = Ok true
held_answer (Err told) = answer_held told.1

-- what is put aside then: nothing, once the slot is published; otherwise what was
abbrev pub aside_left : {T E : Type 0} → Result T E → Option Aside → Option Aside
aside_left (Ok done) aside = None
aside_left (Err told) aside = aside

-- the pass took up the slot that the member held, and inserted by it; it is answered as other inserts are, and the slot is published, or still held
pub record InsertsAside (Leave : List Call → Trace → Trace → Type 0) (told : Trace → Bool → List Call) (m n : MemberView) (key value budget : ℕ) (answer : Result Bool HeldRefusal) : Type 0 where
  pub hand : HandView
  pub was : m.aside ≡ Some (aside_of hand)
  pub first : PassView
  pub up : KeepsAllButHand m.pass first
  pub is : IsHandOf first hand
  pub back : PassView
  pub came : Result (Unit {0}) (HandView × StillInHand)
  pub inserts : InsertsByHeld Leave told first back key value budget hand came
  pub ends : EmptiesHand back n.pass
  pub called : CalledBy Leave (told m.pass.trace) (λ so. Unit {0}) m n budget (as_answer came)
  pub replies : answer ≡ held_answer came
  pub left : n.aside ≡ aside_left came m.aside

-- an insert by the slot that a member holds; if it holds none, or its own pool is full, nothing was done
abbrev pub InsertsHeldBy : (List Call → Trace → Trace → Type 0) → (Trace → Bool → List Call) → MemberView → MemberView → ℕ → ℕ → ℕ → Result Bool HeldRefusal → Type 0
InsertsHeldBy Leave told m n key value budget (Err held.NotHeld) = (n ≡ m) × (m.aside ≡ None)
InsertsHeldBy Leave told m n key value budget (Err held.Full) = (n ≡ m) × (m.aside ≢ None) × (POOL ≤ length m.pass.pool)
InsertsHeldBy Leave told m n key value budget answer = InsertsAside Leave told m n key value budget answer
