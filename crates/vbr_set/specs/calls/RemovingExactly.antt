-- What a remove of one entry promises at a map, and at a set.
use Rattle.std.specs.Prelude.{ℕ, Bool, true, false, List, [], ◌∷◌, Option, Some, None, Result, IfOk, is_some}
use Rattle.vbr_machine.specs.History.{set_call}
use Rattle.vbr_machine.specs.declared.history.Call.{Call}
use Rattle.vbr_machine.specs.declared.history.Op.TheVariants.{Remove}
use Rattle.vbr_slots.specs.views.Views.{Trace}
use Rattle.vbr_at_table.specs.declared.refusal.Refusal.{Refusal}
use Rattle.vbr_list.specs.traversals.Leaving.{BoundsOfRemove}
use Rattle.vbr_list.specs.named_entries.RemovingExactly.{TellsKeyTaken, TellsTaken}
use Rattle.vbr_list.specs.calls.Told.{given_call}
use Rattle.vbr_list.specs.declared.entries.Entry.{Entry}
use Rattle.vbr_set.specs.histories.Answers.{AnswersAll}
use Rattle.vbr_set.specs.calls.MapCalls.{MapAnswersAll}
use Rattle.vbr_set.specs.calls.Members.{CallerView, CallsBy, MemberView, caller}

-- its calls at a map: the remove of the value that it took out, or none if it took out nothing
abbrev pub taken_calls : ℕ → ℕ → Option ℕ → List Call
taken_calls who key None = []
taken_calls who key (Some value) = given_call who Remove key (Some value) ∷ []

-- and at a set
abbrev pub key_taken_calls : ℕ → ℕ → Bool → List Call
key_taken_calls who key false = []
key_taken_calls who key true = set_call who Remove key true ∷ []

-- it is answered as other removes are, or made no call; and what it answers is true
pub record RemovesNamed {A : Type 0} (Leave : List Call → Trace → Trace → Type 0) (calls : A → List Call) (Tells : A → Type 0) (yes : A → Bool) (c d : CallerView) (key budget : ℕ) (answer : Result A Refusal) : Type 0 where
  pub removes : CallsBy Leave calls (BoundsOfRemove yes c.pass d.pass key budget) c d budget answer
  pub told : IfOk answer Tells

-- the same for a member of a map: if it took a value out it marked the entry's node, otherwise the map lacked the entry at some moment meanwhile
abbrev pub TakesExactly : MemberView → MemberView → ℕ → Entry → ℕ → Result (Option ℕ) Refusal → Type 0
TakesExactly m n key entry budget answer = RemovesNamed MapAnswersAll (taken_calls m.pass.trace.who key) (TellsTaken m.pass.trace n.pass.trace key entry) is_some (caller m) (caller n) key budget answer

-- and for a member of a set
abbrev pub TakesKeyExactly : MemberView → MemberView → ℕ → Entry → ℕ → Result Bool Refusal → Type 0
TakesKeyExactly m n key entry budget answer = RemovesNamed AnswersAll (key_taken_calls m.pass.trace.who key) (TellsKeyTaken m.pass.trace n.pass.trace key entry) (λ taken. taken) (caller m) (caller n) key budget answer
