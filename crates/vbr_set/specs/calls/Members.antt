-- What contracts see of a member of a set, and of its calls.
use Rattle.std.specs.Prelude.{◌≡◌, ℕ, Bool, Result, IfOk, IfErr, List, [], ◌∷◌, map, Option, None}
use Rattle.vbr_machine.specs.Start.{Start}
use Rattle.vbr_machine.specs.History.{set_call}
use Rattle.vbr_machine.specs.declared.history.Call.{Call}
use Rattle.vbr_machine.specs.declared.history.Op.{Op}
use Rattle.vbr_slots.specs.steps.Calls.{IsSame, Quiet}
use Rattle.vbr_slots.specs.views.Views.{PassView, TableView, Trace, new_passes}
use Rattle.vbr_at_table.specs.costs.WithinBudget.{TookWithin}
use Rattle.vbr_at_table.specs.declared.aside.Aside.{Aside}
use Rattle.vbr_at_table.specs.Soundness.{HasSafeRun}
use Rattle.vbr_list.specs.calls.CallBounds.{BoundsOfCall}
use Rattle.vbr_at_table.specs.declared.refusal.Refusal.{Refusal}
use Rattle.vbr_set.specs.histories.Answers.{AnswerAlone, AnswersAll}

-- a member: its set, its pass, and the slot that it has put aside, if any
pub record MemberView : Type 0 where
  pub set : TableView
  pub pass : PassView
  pub aside : Option Aside

-- a pass of a set, as a member of it that has put no slot aside
abbrev pub as_member : TableView → PassView → MemberView
as_member set pass = record { set = set; pass = pass; aside = None }

-- the maker of a call: a pass of a set
pub record CallerView : Type 0 where
  pub set : TableView
  pub pass : PassView

-- a pass of a set, as the maker of a call
abbrev pub as_caller : TableView → PassView → CallerView
as_caller set pass = record { set = set; pass = pass }

-- a member makes a call by its pass, whatever it has put aside
abbrev pub caller : MemberView → CallerView
caller m = as_caller m.set m.pass

-- the members of an opening: one for each pass, in the order of their numbers, which has seen nothing
abbrev pub new_members : TableView → ℕ → List MemberView
new_members set count = map (λ pass. record { set = set; pass = pass; aside = None }) (new_passes set 0 count)

-- these are the members of a set that starts so and was opened with so many passes
pub record AreNew (start : Start) (count : ℕ) (members : List MemberView) : Type 0 where
  pub set : TableView
  pub shaped : set.start ≡ start
  pub counted : set.passes ≡ count
  pub are : members ≡ new_members set count

-- the one call that an answer stands for
abbrev pub one : {A : Type 0} → (A → Call) → A → List Call
one told reply = told reply ∷ []

-- what a call leaves of its caller, which is the same pass of the same set or map
-- If the call was answered, its call of the history leaves what answers leave, and alone it has the replies of a plain set. If it was refused, it made no call.
-- In each case what its pass has then seen is a safe run. It has no slot in hand, and made no more steps than its budget.
pub record CallsBy {A : Type 0} (Leave : List Call → Trace → Trace → Type 0) (told : A → List Call) (BoundsSo : Result A Refusal → Type 0) (m n : CallerView) (budget : ℕ) (answer : Result A Refusal) : Type 0 where
  pub set : n.set ≡ m.set
  pub same : IsSame m.pass.trace n.pass.trace
  pub answers : IfOk answer (λ reply. Leave (told reply) m.pass.trace n.pass.trace)
  pub alone : IfOk answer (λ reply. AnswerAlone m.pass.trace (told reply))
  pub quiet : IfErr answer (λ refusal. Quiet m.pass.trace n.pass.trace)
  pub safe : HasSafeRun n.pass.trace
  pub hand : n.pass.hand ≡ None
  pub steps : TookWithin m.pass.trace n.pass.trace budget
  pub bounds : BoundsSo answer

-- the same for a call of a member
abbrev pub CalledBy : {A : Type 0} → (List Call → Trace → Trace → Type 0) → (A → List Call) → (Result A Refusal → Type 0) → MemberView → MemberView → ℕ → Result A Refusal → Type 0
CalledBy Leave told BoundsSo m n budget answer = CallsBy Leave told BoundsSo (caller m) (caller n) budget answer

-- a call on a set: its answer stands for one call, which stands in one legal history of what its pass has then seen, exactly once, after all its earlier calls
abbrev pub Called : Op → MemberView → MemberView → ℕ → ℕ → Result Bool Refusal → Type 0
Called op m n key budget answer = CalledBy AnswersAll (one (set_call m.pass.trace.who op key)) (BoundsOfCall op m.pass n.pass key budget) m n budget answer
