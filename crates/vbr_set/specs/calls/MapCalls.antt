-- What the calls on a map promise: the same as the calls on a set, and that each value is the one stored; and calls of either kind.
use Rattle.std.specs.Prelude.{◌≡◌, ℕ, ◌⊎◌, Bool, List, Option, Some, Result, Err, is_some}
use Rattle.vbr_machine.specs.History.{GiveStored, values_after}
use Rattle.vbr_machine.specs.Maps.{IsMapLegal, opening_entries}
use Rattle.vbr_machine.specs.Opened.{opening_payloads}
use Rattle.vbr_machine.specs.declared.history.Call.{Call}
use Rattle.vbr_machine.specs.declared.history.Op.{Op}
use Rattle.vbr_machine.specs.declared.history.Op.TheVariants.{Insert, Remove, Has, Get}
use Rattle.vbr_slots.specs.steps.Calls.{made_by}
use Rattle.vbr_slots.specs.views.Views.{Trace}
use Rattle.vbr_at_table.specs.hands.KeptSlots.{KeepsSlots}
use Rattle.vbr_list.specs.updates.Expecting.{removal_call}
use Rattle.vbr_list.specs.updates.NewValues.{sum_in}
use Rattle.vbr_list.specs.calls.CallBounds.{BoundsOfInsert, BoundsOfLookUp}
use Rattle.vbr_list.specs.updates.Storing.{BoundsOfStore, stored_calls}
use Rattle.vbr_list.specs.traversals.Leaving.{BoundsOfRemove}
use Rattle.vbr_list.specs.calls.Told.{given_call, stored_call}
use Rattle.vbr_list.specs.updates.Wanted.{wants}
use Rattle.vbr_list.specs.declared.wanted.Wanted.{Wanted}
use Rattle.vbr_list.specs.declared.wanted.Wanted.TheVariants.{Absent, Present, Anything, Value}
use Rattle.vbr_at_table.specs.declared.refusal.Refusal.{Refusal}
use Rattle.vbr_set.specs.histories.Answers.{AnswersAll}
use Rattle.vbr_set.specs.histories.Histories.{calls_of}
use Rattle.vbr_set.specs.calls.Members.{Called, CalledBy, MemberView, one}

-- on a table with one pass the values are what a plain map gives which opened with the entries of its start, perhaps none, and was given the calls of the pass before, and no others
abbrev pub GiveAlone : Trace → List Call → Type 0
GiveAlone p calls = p.passes ≡ 1 → GiveStored (values_after (opening_payloads p.start) (made_by p)) calls

-- what answered calls leave in a set; the calls of the run, of all passes, are a legal history of a map that opened with the entries of its start, each value given being the one stored; and alone the values are what a plain map gives
pub record MapAnswersAll (calls : List Call) (p q : Trace) : Type 0 where
  pub answers : AnswersAll calls p q
  pub legal : IsMapLegal (opening_entries q.start) (calls_of q.start q.seen)
  pub gives : GiveAlone p calls

-- the same for an insert of an entry, which stores its value if it is answered yes
abbrev pub InsertsEntry : MemberView → MemberView → ℕ → ℕ → ℕ → Result Bool Refusal → Type 0
InsertsEntry m n key value budget answer = CalledBy MapAnswersAll (one (stored_call m.pass.trace.who key value)) (BoundsOfInsert m.pass n.pass key budget) m n budget answer

-- for a remove, which gives the value
abbrev pub RemovesEntry : MemberView → MemberView → ℕ → ℕ → Result (Option ℕ) Refusal → Type 0
RemovesEntry m n key budget answer = CalledBy MapAnswersAll (one (given_call m.pass.trace.who Remove key)) (BoundsOfRemove is_some m.pass n.pass key budget) m n budget answer

-- for a get, which gives the value
abbrev pub GetsEntry : MemberView → MemberView → ℕ → ℕ → Result (Option ℕ) Refusal → Type 0
GetsEntry m n key budget answer = CalledBy MapAnswersAll (one (given_call m.pass.trace.who Get key)) (BoundsOfLookUp (given_call m.pass.trace.who Get key) 2 m.pass n.pass key budget) m n budget answer

-- for a remove of a key with the expected value: a remove that is answered with it, or a get of what was there
abbrev pub RemovesIf : MemberView → MemberView → ℕ → ℕ → ℕ → Result (Option ℕ) Refusal → Type 0
RemovesIf m n key expected budget answer = CalledBy MapAnswersAll (one (removal_call m.pass.trace.who key (Some expected))) (BoundsOfRemove (wants (Value expected)) m.pass n.pass key budget) m n budget answer

-- and for a store, which may make two calls: if what was there is as wanted, the key is removed with its value, if it has one, and inserted with the new one, next to each other; otherwise it is a get of what was there
abbrev pub StoresEntry : MemberView → MemberView → ℕ → ℕ → Wanted → ℕ → Result (Option ℕ) Refusal → Type 0
StoresEntry m n key value wanted budget answer = CalledBy MapAnswersAll (stored_calls m.pass.trace.who key value wanted) (λ so. KeepsSlots m.pass n.pass × BoundsOfStore wanted m.pass n.pass key budget so) m n budget answer

-- ---- stores by their names

-- a replacement stores if some value is there
abbrev pub ReplacesEntry : MemberView → MemberView → ℕ → ℕ → ℕ → Result (Option ℕ) Refusal → Type 0
ReplacesEntry m n key value budget answer = StoresEntry m n key value Present budget answer

-- a put stores in any case
abbrev pub PutsEntry : MemberView → MemberView → ℕ → ℕ → ℕ → Result (Option ℕ) Refusal → Type 0
PutsEntry m n key value budget answer = StoresEntry m n key value Anything budget answer

-- a fetch-and-add stores in any case too: the sum with what was there, or what is added if none was
abbrev pub AddsEntry : MemberView → MemberView → ℕ → ℕ → ℕ → Result (Option ℕ) Refusal → Type 0
AddsEntry m n key delta budget answer = StoresEntry m n key (sum_in delta answer) Anything budget answer

-- an exchange stores if the expected value is there
abbrev pub ExchangesEntry : MemberView → MemberView → ℕ → ℕ → ℕ → ℕ → Result (Option ℕ) Refusal → Type 0
ExchangesEntry m n key expected value budget answer = StoresEntry m n key value (Value expected) budget answer

-- and a get that inserts stores if none is there
abbrev pub GetsOrInsertsEntry : MemberView → MemberView → ℕ → ℕ → ℕ → Result (Option ℕ) Refusal → Type 0
GetsOrInsertsEntry m n key value budget answer = StoresEntry m n key value Absent budget answer

-- ---- calls of either kind

-- a call on a set was made, answered or refused
abbrev pub IsSetCall : Op → MemberView → MemberView → Type 0
IsSetCall op m n = (key : ℕ) × (budget : ℕ) × (answer : Result Bool Refusal) × Called op m n key budget answer

-- a store was made, which may insert
abbrev pub IsStore : MemberView → MemberView → Type 0
IsStore m n = (key : ℕ) × (value : ℕ) × (wanted : Wanted) × (budget : ℕ) × (answer : Result (Option ℕ) Refusal) × StoresEntry m n key value wanted budget answer

-- an insert or a store of a map was made
abbrev pub IsMapInsert : MemberView → MemberView → Type 0
IsMapInsert m n = ((key : ℕ) × (value : ℕ) × (budget : ℕ) × (answer : Result Bool Refusal) × InsertsEntry m n key value budget answer) ⊎ IsStore m n

-- a remove of a map was made, of any value or of an expected one
abbrev pub IsMapRemove : MemberView → MemberView → Type 0
IsMapRemove m n = ((key : ℕ) × (budget : ℕ) × (answer : Result (Option ℕ) Refusal) × RemovesEntry m n key budget answer)
    ⊎ ((key : ℕ) × (expected : ℕ) × (budget : ℕ) × (answer : Result (Option ℕ) Refusal) × RemovesIf m n key expected budget answer)

-- a call on a map was made; its look-ups are the look-ups on a set
abbrev pub IsMapCall : Op → MemberView → MemberView → Type 0
IsMapCall Insert m n = IsMapInsert m n
IsMapCall Remove m n = IsMapRemove m n
IsMapCall Has m n = IsSetCall Has m n
IsMapCall Get m n = (key : ℕ) × (budget : ℕ) × (answer : Result (Option ℕ) Refusal) × GetsEntry m n key budget answer

-- a call of either kind was made: what may insert, what may remove and inserts none, and look-ups
abbrev pub IsCall : Op → MemberView → MemberView → Type 0
IsCall op m n = IsSetCall op m n ⊎ IsMapCall op m n

-- an insert of a key, in a set or in a map, or a store was refused for this reason
abbrev pub InsertRefused : MemberView → MemberView → ℕ → ℕ → Refusal → Type 0
InsertRefused m n key budget refusal = Called Insert m n key budget (Err refusal)
    ⊎ (((value : ℕ) × InsertsEntry m n key value budget (Err refusal)) ⊎ ((value : ℕ) × (wanted : Wanted) × StoresEntry m n key value wanted budget (Err refusal)))
