-- What a call of a member ensures says of its pass what the laws of calls ask.
use Rattle.std.proofs.Common.{ℕ, Bool, true, false, List, [], ◌∷◌, Option, Some, None, Ok, Err, Result}
use Rattle.std.specs.Prelude.{IfOk, if◌then◌else◌}
use Rattle.vbr_machine.specs.declared.history.Call.{Call}
use Rattle.vbr_machine.specs.declared.history.Op.TheVariants.{Get}
use Rattle.vbr_slots.specs.steps.Calls.{Made}
use Rattle.vbr_slots.specs.views.Views.{Trace}
use Rattle.vbr_at_table.specs.declared.refusal.Refusal.{Refusal}
use Rattle.vbr_list.specs.calls.CallBounds.{CallsAs, CallsEntry}
use Rattle.vbr_list.specs.updates.Storing.{CallsStore, Makes, storing_calls}
use Rattle.vbr_list.specs.calls.Told.{given_call, stored_call}
use Rattle.vbr_list.specs.updates.Wanted.{wants}
use Rattle.vbr_list.specs.declared.wanted.Wanted.{Wanted}
use Rattle.vbr_set.specs.histories.Answers.{AnswersAll}
use Rattle.vbr_set.specs.progress.Callers.{MembersCall}
use Rattle.vbr_set.specs.calls.MapCalls.{MapAnswersAll, StoresEntry}
use Rattle.vbr_set.specs.calls.Members.{CalledBy, MemberView, one}
use Rattle.vbr_set.proofs.histories.Histories.{each_answer}

-- ---- one call

made_one : (call : Call) (p q : Trace) → AnswersAll (call ∷ []) p q → Made call p q
made_one call p q a = record { same = a.same; seen = a.begins; is_run = a.is_run; calls = a.once }

module _ {A : Type 0} (told : A → Call) (BoundsSo : Result A Refusal → Type 0) (m n : MemberView) (budget : ℕ)
    (answer : Result A Refusal) where
  as_call : {Leave : List Call → Trace → Trace → Type 0} →
      ((calls : List Call) → Leave calls m.pass.trace n.pass.trace → AnswersAll calls m.pass.trace n.pass.trace) →
      CalledBy Leave (one told) BoundsSo m n budget answer → CallsAs told BoundsSo m.pass n.pass budget answer
  as_call all c = record {
    same = c.same;
    made = each_answer answer
        (λ reply left. made_one (told reply) m.pass.trace n.pass.trace (all (one told reply) left)) c.answers;
    alone = each_answer answer (λ reply legal. (λ lone. (legal lone).0)) c.alone;
    quiet = c.quiet;
    hand = c.hand;
    steps = c.steps;
    bounds = c.bounds;
  }

  as_entry : CalledBy MapAnswersAll (one told) BoundsSo m n budget answer →
      CallsEntry told BoundsSo m.pass n.pass budget answer
  as_entry c = record {
    calls = as_call {Leave = MapAnswersAll} (λ calls left. left.answers) c;
    gives = each_answer answer (λ reply left. (λ lone. (left.gives lone).0)) c.answers;
  }

-- ---- a store

storing_made : (who key value : ℕ) (there : Option ℕ) (p q : Trace) →
    AnswersAll (storing_calls who key value there) p q → Makes (storing_calls who key value there) p q
storing_made who key value None p q a = made_one (stored_call who key value true) p q a
storing_made who key value (Some old) p q a = record {
  same = a.same;
  seen = a.begins;
  is_run = a.is_run;
  calls = a.once;
  together = record { others = a.together.between; later = a.together.more; calls = a.together.stands };
}

stored_made : (b : Bool) (who key value : ℕ) (there : Option ℕ) (p q : Trace) →
    AnswersAll (if b then storing_calls who key value there else given_call who Get key there ∷ []) p q →
    Makes (if b then storing_calls who key value there else given_call who Get key there ∷ []) p q
stored_made true who key value there p q a = storing_made who key value there p q a
stored_made false who key value there p q a = made_one (given_call who Get key there) p q a

as_store : (m n : MemberView) (key value : ℕ) (wanted : Wanted) (budget : ℕ) (answer : Result (Option ℕ) Refusal) →
    StoresEntry m n key value wanted budget answer → CallsStore m.pass n.pass key value wanted budget answer
as_store m n key value wanted budget answer c = record {
  same = c.same;
  made = each_answer answer
      (λ there left.
      stored_made (wants wanted there) m.pass.trace.who key value there m.pass.trace n.pass.trace left.answers)
      c.answers;
  alone = each_of_both answer (λ there legal left. (λ lone. (legal lone, left.gives lone))) c.alone c.answers;
  quiet = c.quiet;
  hand = c.hand;
  steps = c.steps;
  kept = c.bounds.0;
  bounds = c.bounds.1;
}
  where
    each_of_both : {A E : Type 0} {P Q R : A → Type 0} (answer : Result A E) →
        ((reply : A) → P reply → Q reply → R reply) → IfOk answer P → IfOk answer Q → IfOk answer R
    each_of_both (Ok reply) f x y = f reply x y
    each_of_both (Err error) f x y = tt

pub members_calls : MembersCall
members_calls =
    record {
      sees = λ p law. record { start = law.start; low = law.low; is_run = law.is_run };
      called = λ op m n key budget answer c. as_call _ _ m n budget answer (λ calls left. left) c;
      got = λ m n key budget answer c. as_entry _ _ m n budget answer c;
      removed = λ m n key budget answer c. as_entry _ _ m n budget answer c;
      removed_if = λ m n key expected budget answer c. as_entry _ _ m n budget answer c;
      inserted = λ m n key value budget answer c. as_entry _ _ m n budget answer c;
      stored = as_store;
    }
