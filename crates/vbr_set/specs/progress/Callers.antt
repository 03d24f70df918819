-- Callers that make one call after another with budget enough: within so many steps of all of them one is answered.
use Rattle.std.specs.Prelude.{◌≡◌, ◌≢◌, ℕ, ◌+◌, ◌*◌, ◌<◌, ◌≤◌, ◌⊎◌, Bool, List, [], ◌∷◌, ◌++◌, length, Option, Ok, Err, Result}
use Rattle.vbr_machine.specs.Runs.{Begins}
use Rattle.vbr_machine.specs.declared.history.Call.{Call}
use Rattle.vbr_machine.specs.declared.history.Op.{Op}
use Rattle.vbr_machine.specs.declared.history.Op.TheVariants.{Has, Insert, Remove}
use Rattle.vbr_slots.specs.steps.Calls.{IsSame}
use Rattle.vbr_slots.specs.steps.PassLaw.{PassLaw}
use Rattle.vbr_slots.specs.views.Views.{PassView, Trace, steps_in, steps_of}
use Rattle.vbr_list.specs.calls.Budgets.{listed_for}
use Rattle.vbr_list.specs.traversals.Disturbed.{enough_among, enough_to_insert_among, enough_to_search_among, enough_to_store_among, steps_for_slot, steps_to_prepare}
use Rattle.vbr_list.specs.updates.Expecting.{CallsRemoveIf}
use Rattle.vbr_list.specs.calls.CallBounds.{Calls, CallsGet, CallsInsert, CallsRemove}
use Rattle.vbr_list.specs.updates.Storing.{CallsStore}
use Rattle.vbr_list.specs.declared.wanted.Wanted.{Wanted}
use Rattle.vbr_at_table.specs.declared.refusal.Refusal.{Refusal}
use Rattle.vbr_at_table.specs.declared.refusal.Refusal.TheVariants.{OutOfSteps, NoSlot, EpochSpent}
use Rattle.vbr_set.specs.calls.Batches.{GetsAll, HasAll}
use Rattle.vbr_set.specs.histories.Histories.{calls_of}
use Rattle.vbr_set.specs.calls.MapCalls.{GetsEntry, InsertsEntry, RemovesEntry, RemovesIf, StoresEntry}
use Rattle.vbr_set.specs.calls.Members.{Called, MemberView}
use Rattle.vbr_set.specs.progress.Progressing.{Proceeds, SeesRun, most_unanswered}
use Rattle.vbr_set.specs.progress.Winning.{OthersComeInNeed, known_steps_for_slot, known_steps_to_prepare}

-- ---- calls with budget enough

-- a call wasn't refused for want of a slot or of an epoch
abbrev pub HadRoom : {A : Type 0} → Result A Refusal → Type 0
HadRoom (Ok reply) = Unit {0}
HadRoom (Err (OutOfSteps used)) = Unit {0}
HadRoom (Err NoSlot) = ⊥
HadRoom (Err (EpochSpent epoch)) = ⊥

-- a pass made a call on a set or a map, answered or refused, with a budget that is enough while no update is answered yes
-- An insert or a store may instead have a budget that is known to be enough as it begins, whatever is in the own pool, if the other passes went beyond their need no more than so often meanwhile.
pub data MadeAmply (p q : PassView) (budget : ℕ) : Type 0 where
  looked_up : (key : ℕ) → (answer : Result Bool Refusal) → enough_among (listed_for p.trace key) (most_unanswered p.trace) ≤ budget → Calls Has p q key budget answer → MadeAmply p q budget
  removed : (key : ℕ) → (answer : Result Bool Refusal) → enough_to_search_among (listed_for p.trace key) (most_unanswered p.trace) ≤ budget → Calls Remove p q key budget answer → MadeAmply p q budget
  inserted : (key : ℕ) → (answer : Result Bool Refusal) → enough_to_insert_among (listed_for p.trace key) (most_unanswered p.trace) (steps_for_slot p q.trace) ≤ budget → HadRoom answer → Calls Insert p q key budget answer → MadeAmply p q budget
  got : (key : ℕ) → (answer : Result (Option ℕ) Refusal) → enough_among (listed_for p.trace key) (most_unanswered p.trace) ≤ budget → CallsGet p q key budget answer → MadeAmply p q budget
  removed_entry : (key : ℕ) → (answer : Result (Option ℕ) Refusal) → enough_to_search_among (listed_for p.trace key) (most_unanswered p.trace) ≤ budget → CallsRemove p q key budget answer → MadeAmply p q budget
  removed_if : (key : ℕ) → (expected : ℕ) → (answer : Result (Option ℕ) Refusal) → enough_to_search_among (listed_for p.trace key) (most_unanswered p.trace) ≤ budget → CallsRemoveIf p q key expected budget answer → MadeAmply p q budget
  inserted_entry : (key : ℕ) → (value : ℕ) → (answer : Result Bool Refusal) → enough_to_insert_among (listed_for p.trace key) (most_unanswered p.trace) (steps_for_slot p q.trace) ≤ budget → HadRoom answer → CallsInsert p q key value budget answer → MadeAmply p q budget
  stored : (key : ℕ) → (value : ℕ) → (wanted : Wanted) → (answer : Result (Option ℕ) Refusal) → enough_to_store_among (listed_for p.trace key) (most_unanswered p.trace) (steps_to_prepare wanted p q.trace) ≤ budget → HadRoom answer → CallsStore p q key value wanted budget answer → MadeAmply p q budget
  inserted_knowing : (key : ℕ) → (answer : Result Bool Refusal) → (beyond : ℕ) → OthersComeInNeed p.trace q.trace beyond → enough_to_insert_among (listed_for p.trace key) (most_unanswered p.trace) (known_steps_for_slot p beyond) ≤ budget → HadRoom answer → Calls Insert p q key budget answer → MadeAmply p q budget
  inserted_entry_knowing : (key : ℕ) → (value : ℕ) → (answer : Result Bool Refusal) → (beyond : ℕ) → OthersComeInNeed p.trace q.trace beyond → enough_to_insert_among (listed_for p.trace key) (most_unanswered p.trace) (known_steps_for_slot p beyond) ≤ budget → HadRoom answer → CallsInsert p q key value budget answer → MadeAmply p q budget
  stored_knowing : (key : ℕ) → (value : ℕ) → (wanted : Wanted) → (answer : Result (Option ℕ) Refusal) → (beyond : ℕ) → OthersComeInNeed p.trace q.trace beyond → enough_to_store_among (listed_for p.trace key) (most_unanswered p.trace) (known_steps_to_prepare wanted p beyond) ≤ budget → HadRoom answer → CallsStore p q key value wanted budget answer → MadeAmply p q budget

-- ---- callers

-- a pass made no step, and may have seen more, as when it catches up with a token
pub record Rests (p q : PassView) : Type 0 where
  pub same : IsSame p.trace q.trace
  pub seen : Begins p.trace.seen q.trace.seen
  pub steps : steps_of q.trace ≡ steps_of p.trace

-- a pass made such a call, and then went on in the steps that it left of its budget, as when it tops its slots up
pub record CallsAndGoesOn (p q : PassView) (budget : ℕ) : Type 0 where
  pub back : PassView
  pub call : MadeAmply p back budget
  pub same : IsSame back.trace q.trace
  pub seen : Begins back.trace.seen q.trace.seen
  pub steps : steps_of q.trace ≤ steps_of p.trace + budget

-- a pass rests, or makes such a call with a budget of no more than so many steps, and may go on in what is left of it
abbrev pub CallsOrRests : ℕ → PassView → PassView → Type 0
CallsOrRests most p q = Rests p q ⊎ ((budget : ℕ) × (budget ≤ most) × CallsAndGoesOn p q budget)

-- by one such thing after another it comes from view to view
abbrev pub CallsOn : (PassView → PassView → Type 0) → PassView → List PassView → Type 0
CallsOn Does p [] = Unit {0}
CallsOn Does p (q ∷ views) = SeesRun p.trace × Does p q × CallsOn Does q views

-- to the last of them
abbrev pub last_view : PassView → List PassView → PassView
last_view p [] = p
last_view p (q ∷ views) = last_view q views

-- so it comes from one view to another
abbrev pub ComesByCalls : ℕ → PassView → PassView → Type 0
ComesByCalls most p q = (views : List PassView) × CallsOn (CallsOrRests most) p views × (last_view p views ≡ q)

-- what is enough for a look-up, whatever is in the table
abbrev pub enough_by_shape : PassView → ℕ
enough_by_shape p = enough_among p.trace.start.shape.slots (2 * p.trace.start.shape.slots + 1)

-- a pass of this number comes through a stretch in this way: it had first seen no more than the beginning of it, and has seen all of it in the end
pub record CallsThrough (Does : PassView → PassView → Type 0) (p q : Trace) (who : ℕ) : Type 0 where
  pub first : PassView
  pub views : List PassView
  pub is : first.trace.who ≡ who
  pub start : first.trace.start ≡ p.start
  pub passes : first.trace.passes ≡ p.passes
  pub calls : CallsOn Does first views
  pub earlier : Begins first.trace.seen p.seen
  pub later : Begins q.seen (last_view first views).trace.seen

-- a pass made no more than so many steps in a stretch
abbrev pub MakesFew : Trace → Trace → ℕ → ℕ → Type 0
MakesFew p q most who = steps_in who q.seen ≤ steps_in who p.seen + most

-- somebody was answered meanwhile: a call was made
pub record SomebodyIsAnswered (p q : Trace) : Type 0 where
  pub since : List Call
  pub adds : calls_of q.start q.seen ≡ calls_of p.start p.seen ++ since
  pub some : since ≢ []

-- ---- laws

-- while a pass makes a call with budget enough, somebody is answered: it, or another
abbrev pub CallsAreAnswered : Type 0
CallsAreAnswered = (p q : PassView) (budget : ℕ) → SeesRun p.trace → Proceeds p.trace q.trace → MadeAmply p q budget → SomebodyIsAnswered p.trace q.trace

-- each pass makes one such call after another, each with what it does in the steps left of its budget, or few steps; then somebody is answered in any stretch in which all of them make more steps than twice that budget for each pass
abbrev pub StepsAreAnswered : Type 0
StepsAreAnswered =
    (p q : PassView) (most : ℕ) → SeesRun p.trace → Proceeds p.trace q.trace
    → ((who : ℕ) → who < p.trace.passes → MakesFew p.trace q.trace (2 * most) who ⊎ CallsThrough (CallsOrRests most) p.trace q.trace who)
    → length p.trace.seen + 2 * most * p.trace.passes < length q.trace.seen → SomebodyIsAnswered p.trace q.trace

-- ---- calls of members

-- each call of a member, of a set or of a map, is such a call of its pass, and what a pass has seen is a run: so the laws of calls speak of it
pub record MembersCall : Type 0 where
  pub sees : (p : PassView) → PassLaw p → SeesRun p.trace
  pub called : (op : Op) (m n : MemberView) (key budget : ℕ) (answer : Result Bool Refusal) → Called op m n key budget answer → Calls op m.pass n.pass key budget answer
  pub got : (m n : MemberView) (key budget : ℕ) (answer : Result (Option ℕ) Refusal) → GetsEntry m n key budget answer → CallsGet m.pass n.pass key budget answer
  pub removed : (m n : MemberView) (key budget : ℕ) (answer : Result (Option ℕ) Refusal) → RemovesEntry m n key budget answer → CallsRemove m.pass n.pass key budget answer
  pub removed_if : (m n : MemberView) (key expected budget : ℕ) (answer : Result (Option ℕ) Refusal) → RemovesIf m n key expected budget answer → CallsRemoveIf m.pass n.pass key expected budget answer
  pub inserted : (m n : MemberView) (key value budget : ℕ) (answer : Result Bool Refusal) → InsertsEntry m n key value budget answer → CallsInsert m.pass n.pass key value budget answer
  pub stored : (m n : MemberView) (key value : ℕ) (wanted : Wanted) (budget : ℕ) (answer : Result (Option ℕ) Refusal) → StoresEntry m n key value wanted budget answer → CallsStore m.pass n.pass key value wanted budget answer

-- ---- look-ups in batches

-- each look-up of a batch, and each get, is such a call, if the budget is enough by the shape of the table
pub record BatchesCall : Type 0 where
  pub has : (m n : MemberView) (keys : List ℕ) (budget : ℕ) (answers : List (Result Bool Refusal)) → SeesRun m.pass.trace
      → enough_by_shape m.pass ≤ budget → HasAll m n keys budget answers → ComesByCalls budget m.pass n.pass
  pub gets : (m n : MemberView) (keys : List ℕ) (budget : ℕ) (answers : List (Result (Option ℕ) Refusal)) → SeesRun m.pass.trace
      → enough_by_shape m.pass ≤ budget → GetsAll m n keys budget answers → ComesByCalls budget m.pass n.pass
