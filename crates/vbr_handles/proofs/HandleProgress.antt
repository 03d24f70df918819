-- What tops a reserve up after a call is made by the same pass, within the budget of the call.
use Rattle.vbr_handles.proofs.Names.{ℕ, Bool, true, false, Result, sym, subst, arith, Trace, Refusal, TopsUpWhere}
use Rattle.vbr_handles.proofs.Names.{Member}
use Rattle.vbr_machine.specs.Runs.{Begins}
use Rattle.vbr_machine.proofs.Lemmas.{begins_refl}
use Rattle.vbr_slots.specs.steps.Calls.{IsSame}
use Rattle.vbr_slots.proofs.Lemmas.{same_refl}
use Rattle.vbr_handles.specs.HandleProgress.{HandlesCallAmply, IsAmplyMade}

-- the same pass, which has seen more
record GoesOn (p q : Trace) : Type 0 where
  same : IsSame p q
  seen : Begins p.seen q.seen

topped_up : (b : Bool) (budget : ℕ) (p : Trace) (m n : Member) → TopsUpWhere b budget p m n →
    GoesOn m.pass.trace n.pass.trace
topped_up true budget p m n tops =
    record { same = tops.tops_up.takes.quiet.same; seen = tops.tops_up.takes.quiet.seen }
topped_up false budget p m n same =
    subst (λ (x : Member). GoesOn m.pass.trace x.pass.trace) (sym same)
    (record { same = same_refl m.pass.trace; seen = begins_refl m.pass.trace.seen })

module _ {A : Type 0} (Calls : Member → Member → Result A Refusal → Type 0) (adds : Result A Refusal → Bool)
    (budget : ℕ) (m n : Member) (answer : Result A Refusal) where
  goes_on : IsAmplyMade Calls adds budget m n answer
  goes_on call made =
      let on = topped_up _ budget m.pass.trace call.between n call.tops_up in
      let took = call.steps.took.made in
      let within = call.steps.within in
      record {
        back = call.between.pass;
        call = made;
        same = on.same;
        seen = on.seen;
        steps = omega (arith, took, within);
      }

pub call_amply : HandlesCallAmply
call_amply =
    record {
      inserted = λ m n key budget answer. goes_on _ _ budget m n answer;
      inserted_entry = λ m n key value budget answer. goes_on _ _ budget m n answer;
      put = λ m n key value budget answer. goes_on _ _ budget m n answer;
      added = λ m n key delta budget answer. goes_on _ _ budget m n answer;
      got_or_inserted = λ m n key value budget answer. goes_on _ _ budget m n answer;
    }
