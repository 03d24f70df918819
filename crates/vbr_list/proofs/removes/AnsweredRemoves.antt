-- A remove that is answered by what its last search found: what it promises, and what it costs.
use Rattle.vbr_list.proofs.Names.{◌≡◌, ℕ, ◌+◌, ◌≤◌, ◌⊎◌, Bool, true, false, Option, None, Ok, Err, sym, ap, subst}
use Rattle.vbr_list.proofs.Names.{arith, inl, inr, is_some, begins_refl, BoundsOfRemove, Call, CallsAs, counts_on}
use Rattle.vbr_list.proofs.Names.{disturbed, Found, Ghosts, given_in, GoesOn, IsSameCall, LastTraversal, Leaves}
use Rattle.vbr_list.proofs.Names.{listed_for, Made, MarksAndSearches, none_on, op_to_remove, Outcome, OutOfSteps}
use Rattle.vbr_list.proofs.Names.{pass_in, PassLaw, PassView, PendingCall, Quiet, quiet_on, removal_in, Remove}
use Rattle.vbr_list.proofs.Names.{remove_costs_among, RemoveAnswers, RemoveRollsBack, RemovesSoon, Rollback}
use Rattle.vbr_list.proofs.Names.{SearchFinds, SearchTires, Settles, steps_to_value_of, takes_out, there_of}
use Rattle.vbr_list.proofs.Names.{TookWithin, trace_in, TraversesAgain, Tries}
use Rattle.vbr_list.proofs.traversals.Clearing.{leaves_since}
use Rattle.vbr_list.proofs.traversals.Disturbing.{run_of}
use Rattle.vbr_list.proofs.removes.Expected.{taken_removes}
use Rattle.vbr_list.proofs.pieces.Going.{by_either, call_on, goes_on, room_left, within_call, within_of}
use Rattle.vbr_list.proofs.pieces.Tiring.{remove_tires}
use Rattle.vbr_list.proofs.traversals.LostTraversals.{HasSearched, searched_more}
use Rattle.vbr_list.proofs.removes.Marks.{left_fewer, remove_alone, remove_paid}
use Rattle.vbr_list.proofs.inserts.Sufficing.{took_alone}
use Rattle.vbr_list.proofs.pieces.Told.{call_answered, given_same, told_since}
use Rattle.vbr_list.proofs.traversals.Searching.{HasRepeated, call_paid}

-- what was found is lost, so the remove searches again
pub removes_again : {N : Type 0} {kind : Ghosts N} {c a b d : PendingCall N kind} {found : Found} {why : Rollback} →
    PassLaw (pass_in c) → HasSearched 6 c a → GoesOn a b → SearchFinds a b found → Settles b d →
    RemoveRollsBack b d found why → HasSearched 6 c d
removes_again {found = found} law so went finds s rolls =
    let low = s.more in
    searched_more 3 law so went found finds s.call (record { quiet = rolls.quiet; counts = s.counts; hand = s.hand })
    (omega (arith, low)) rolls.few rolls.loses

module _ {N : Type 0} {kind : Ghosts N} {c a b : PendingCall N kind} (law : PassLaw (pass_in c)) (begun : c.used ≡ 0)
    (so : HasSearched 6 c a) (goes : GoesOn a b) where
  abbrev p : PassView
  p = pass_in c

  abbrev key : ℕ
  key = c.key

  abbrev budget : ℕ
  budget = c.budget

  tries : Tries p (pass_in a) 0 a.used budget
  tries = subst (λ used. Tries p (pass_in a) used a.used budget) begun so.1

  rounds : HasRepeated 9 p.trace (trace_in a) key 6 0 a.used
  rounds = subst (λ used. HasRepeated 9 p.trace (trace_in a) key 6 used a.used) begun so.2

  abbrev before : Quiet p.trace (trace_in a)
  before = so.1.goes.quiet

  abbrev first : Quiet p.trace (trace_in b)
  first = quiet_on before goes.goes.quiet

  same_call : IsSameCall c b
  same_call = call_on so.0 goes.call

  -- there were no steps left
  pub remove_refused : {A : Type 0} {told : A → Call} {yes : A → Bool} → SearchTires a b → (pass_in b).hand ≡ None →
      CallsAs told (BoundsOfRemove yes p (pass_in b) key budget) p (pass_in b) budget (Err (OutOfSteps b.used))
  remove_refused tires hand =
      remove_tires law key tries goes.goes (within_call same_call) (rw so.0.budget at tires.tired) hand rounds
      (subst (λ k. TraversesAgain 9 (trace_in a) (trace_in b) k a.used b.used) so.0.key tires.traverses)

  module _ {found : Found} (finds : SearchFinds a b found) where
    traverses : TraversesAgain 9 (trace_in a) (trace_in b) key a.used b.used
    traverses = subst (λ k. TraversesAgain 9 (trace_in a) (trace_in b) k a.used b.used) so.0.key finds.traverses

    -- a remove that is answered by what a search found
    pub removed : {d : PendingCall N kind} (expected : Option ℕ) (outcome : Outcome) → Settles b d →
        RemoveAnswers expected b d found outcome → (pass_in d).hand ≡ None →
        CallsAs (removal_in p.trace key expected) (BoundsOfRemove (takes_out expected) p (pass_in d) key budget) p
        (pass_in d) budget (Ok (there_of outcome))
    removed {d} expected outcome settles x hand =
        let answer = there_of outcome in
        let q = trace_in b in
        let r = trace_in d in
        let there = same_call.key in
        let call = call_on same_call settles.call in
        let M : ℕ → Type 0 = λ k. Made (given_in q (op_to_remove expected answer) k answer) q r in
        let answered : M key = subst M there x.made in
        let made = told_since first (given_same first.same (op_to_remove expected answer) key answer) answered in
        let counts = counts_on (goes_on tries.goes goes.goes).counts settles.counts in
        let values = ap steps_to_value_of first.same.start in
        let last = subst (λ k. LastTraversal (trace_in a) q k a.used b.used found) so.0.key finds.last in
        let soon_so : Type 0 = RemovesSoon expected b d answer in
        let late_so : ℕ → Type 0 =
        λ k. MarksAndSearches (steps_to_value_of q.start + 1) q r k b.used d.used found.pred in
        let either : soon_so ⊎ ((op_to_remove expected answer ≡ Remove) × late_so key) =
        by_either {C = soon_so ⊎ ((op_to_remove expected answer ≡ Remove) × late_so key)} x.paid
        (λ soon. inl soon) (λ y. inr (taken_removes expected answer y.taken, subst late_so there y.late)) in
        let paid = remove_paid p.trace (trace_in a) q r law.start key before goes.goes.quiet made answered.seen rounds
        found last traverses either (λ (soon : soon_so). let few = soon.few in omega (arith, few, values)) in
        let n = listed_for p.trace key in
        let costs : TookWithin p.trace r
        (remove_costs_among n (disturbed p.trace r key) (steps_to_value_of p.trace.start)) =
        within_of d.used _ paid counts in
        let most = call.budget in
        let least = same_call.budget in
        call_answered answer law made hand counts (within_call call) (record {
          takes_no_slot = none_on (goes_on tries.goes goes.goes).hand.takes_no_slot settles.hand.takes_no_slot;
          unlists = λ yes left.
              let room = room_left d.used budget counts left in
              leaves_since r key law.start first
              (subst (Leaves q r) there (x.unlists yes (omega (arith, room, most))));
          refused = tt;
          within = tt;
          disturbed_within = tt;
          costs = took_alone (λ t. remove_costs_among n t (steps_to_value_of p.trace.start)) key costs (omega arith);
          disturbed_costs = costs;
          fewer = λ yes whole enough.
              let soon = remove_alone p.trace (trace_in a) q r law.start key before goes.goes.quiet made answered.seen
              rounds found last traverses either whole in
              let few = soon.1 in
              let left = leaves_since r key law.start first
              (subst (Leaves q r) there (soon.0.leaves yes (omega (arith, few, enough, least, values)))) in
              left_fewer p.trace (trace_in a) q r law.start key before goes.goes.quiet made answered.seen
              (taken_removes expected answer yes) left whole;
        })

    -- one that is answered no by it, and makes no call
    pub removed_none : BoundsOfRemove {A = Option ℕ} is_some p (pass_in b) key budget (Ok None)
    removed_none =
        let r = trace_in b in
        let ok = run_of law first in
        let paid = call_paid p.trace (trace_in a) r r law.start ok key 6 before goes.goes.quiet (begins_refl r.seen)
        (omega arith, omega arith) rounds traverses b.used 0 (omega arith) in
        let n = listed_for p.trace key in
        let all = goes_on tries.goes goes.goes in
        let few : b.used ≤ remove_costs_among n (disturbed p.trace r key) (steps_to_value_of p.trace.start) =
        omega (arith, paid) in
        let costs : TookWithin p.trace r
        (remove_costs_among n (disturbed p.trace r key) (steps_to_value_of p.trace.start)) =
        within_of b.used _ few all.counts in
        record {
          takes_no_slot = all.hand.takes_no_slot;
          unlists = λ yes left. absurd (let z : true ≡ false = sym yes in cc);
          refused = tt;
          within = tt;
          disturbed_within = tt;
          costs = took_alone (λ t. remove_costs_among n t (steps_to_value_of p.trace.start)) key costs (omega arith);
          disturbed_costs = costs;
          fewer = λ yes whole enough. absurd (let z : true ≡ false = sym yes in cc);
        }
