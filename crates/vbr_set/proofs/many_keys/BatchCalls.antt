-- Each look-up of a batch is a call with budget enough, where the shape of the table tells so.
use Rattle.std.proofs.Common.{ℕ, ◌+◌, ◌*◌, ◌<◌, ◌≤◌, List, [], ◌∷◌, Result, sym, ap, subst}
use Rattle.std.proofs.Common.{arith, inr}
use Rattle.vbr_machine.specs.Start.{IsStart, Start}
use Rattle.vbr_machine.specs.Runs.{IsRun}
use Rattle.vbr_machine.proofs.Lemmas.{begins_refl}
use Rattle.vbr_slots.specs.steps.Calls.{IsSame}
use Rattle.vbr_slots.specs.views.Views.{PassView, Trace}
use Rattle.vbr_slots.proofs.Lemmas.{same_refl}
use Rattle.vbr_at_table.specs.costs.WithinBudget.{TookWithin}
use Rattle.vbr_at_table.specs.declared.refusal.Refusal.{Refusal}
use Rattle.vbr_set.specs.calls.Batches.{InTurn}
use Rattle.vbr_set.specs.progress.Callers.{BatchesCall, CallsAndGoesOn, ComesByCalls, MadeAmply, enough_by_shape, got}
use Rattle.vbr_set.specs.progress.Callers.{looked_up}
use Rattle.vbr_set.specs.calls.MapCalls.{GetsEntry}
use Rattle.vbr_set.specs.calls.Members.{Called, CallerView, CallsBy, MemberView}
use Rattle.vbr_set.specs.progress.Progressing.{SeesRun, most_unanswered}
use Rattle.vbr_list.specs.calls.Budgets.{listed_for}
use Rattle.vbr_list.specs.traversals.Disturbed.{enough_among}
use Rattle.vbr_machine.specs.declared.history.Call.{Call}
use Rattle.vbr_machine.specs.declared.history.Op.TheVariants.{Has}
use Rattle.vbr_set.proofs.progress.EnoughByShape.{shapes_tell}
use Rattle.vbr_set.proofs.members.MembersCalls.{members_calls}

-- what a look-up leaves: the same pass, in what it has seen a run, with no more steps than its budget
record Leaves (p q : PassView) (budget : ℕ) : Type 0 where
  same : IsSame p.trace q.trace
  sees : SeesRun q.trace
  steps : TookWithin p.trace q.trace budget

sees_on : {p q : Trace} → IsSame p q → SeesRun p → IsRun q.start q.passes q.seen → SeesRun q
sees_on same sees run = record {
  start = subst IsStart (sym same.start) sees.start;
  low = subst (λ (x : ℕ × ℕ). x.0 < x.1) (λ i. (sym same.who i, sym same.passes i)) sees.low;
  is_run = run;
}

leaves : {A : Type 0} {Leave : List Call → Trace → Trace → Type 0} {told : A → List Call}
    {BoundsSo : Result A Refusal → Type 0} {m n : CallerView} {budget : ℕ} {answer : Result A Refusal} →
    SeesRun m.pass.trace → CallsBy Leave told BoundsSo m n budget answer → Leaves m.pass n.pass budget
leaves sees c = record { same = c.same; sees = sees_on c.same sees c.safe.is_run; steps = c.steps }

-- what is enough by the shape stays
enough_on : (p q : PassView) (budget : ℕ) → IsSame p.trace q.trace → enough_by_shape p ≤ budget →
    enough_by_shape q ≤ budget
enough_on p q budget same enough =
    subst (λ (s : Start). enough_among s.shape.slots (2 * s.shape.slots + 1) ≤ budget) (sym same.start) enough

module _ {A : Type 0} (budget : ℕ) (Calls : MemberView → MemberView → ℕ → A → Type 0)
    (amply : (m n : MemberView) (key : ℕ) (answer : A) → enough_by_shape m.pass ≤ budget → Calls m n key answer →
    MadeAmply m.pass n.pass budget)
    (leaves : (m n : MemberView) (key : ℕ) (answer : A) → SeesRun m.pass.trace → Calls m n key answer →
    Leaves m.pass n.pass budget) where
  comes : (m n : MemberView) (keys : List ℕ) (answers : List A) → SeesRun m.pass.trace →
      enough_by_shape m.pass ≤ budget → InTurn Calls m n keys answers → ComesByCalls budget m.pass n.pass
  comes m n [] [] sees enough is = ([], tt, ap (λ (x : MemberView). x.pass) (sym is))
  comes m n (key ∷ keys) (answer ∷ answers) sees enough (between, call, on) =
      let left = leaves m between key answer sees call in
      let rest = comes between n keys answers left.sees (enough_on m.pass between.pass budget left.same enough) on in
      let took = left.steps.took.made in
      let within = left.steps.within in
      let goes : CallsAndGoesOn m.pass between.pass budget = record {
        back = between.pass;
        call = amply m between key answer enough call;
        same = same_refl between.pass.trace;
        seen = begins_refl between.pass.trace.seen;
        steps = omega (arith, took, within);
      } in
      (between.pass ∷ rest.0, (sees, inr (budget, omega arith, goes), rest.1), rest.2)
  comes m n _ _ sees enough is = absurd is

pub batches_call : BatchesCall
batches_call =
    record {
      has = λ m n keys budget answers sees enough all.
          comes budget (λ m n key answer. Called Has m n key budget answer)
          (λ m n key answer enough c.
          looked_up key answer (at_key m key budget enough) (members_calls.called Has m n key budget answer c))
          (λ m n key answer sees c. leaves sees c) m n keys answers sees enough all;
      gets = λ m n keys budget answers sees enough all.
          comes budget (λ m n key answer. GetsEntry m n key budget answer)
          (λ m n key answer enough c.
          got key answer (at_key m key budget enough) (members_calls.got m n key budget answer c))
          (λ m n key answer sees c. leaves sees c) m n keys answers sees enough all;
    }
  where
    at_key : (m : MemberView) (key budget : ℕ) → enough_by_shape m.pass ≤ budget →
        enough_among (listed_for m.pass.trace key) (most_unanswered m.pass.trace) ≤ budget
    at_key m key budget enough = let low = shapes_tell.look_up m.pass key in omega (arith, low, enough)
