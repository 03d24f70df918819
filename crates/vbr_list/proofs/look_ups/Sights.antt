-- What a look-up came to, as what its answer asks.
use Rattle.vbr_list.proofs.Names.{◌≡◌, ◌≢◌, ℕ, ◌≤◌, Bool, true, false, None, Option, is_some, arith, refl, sym, subst}
use Rattle.vbr_list.proofs.Names.{At, Call, FindsAnother, Get, Ghosts, given_by, Insert, IsAnswered, IsSlot}
use Rattle.vbr_list.proofs.Names.{kept_call, KeyAt, Know, look_up_op, LookUpAnswers, LookUpRollsBack, PendingCall}
use Rattle.vbr_list.proofs.Names.{Rollback, set_call, Sight, sighted, steps_to_answer, trace_in}
use Rattle.vbr_list.proofs.traversals.Disturbing.{loses_link}
use Rattle.vbr_list.proofs.pieces.Told.{told_bare}

pub keyed_slot : (know : Know) (place : At) (key : ℕ) → KeyAt know place key → IsSlot place
keyed_slot know place key k = grind arith

-- ---- its answer

-- where it gives no value, it answers as a set does
pub answers_bare : {N : Type 0} {kind : Ghosts N} {c d : PendingCall N kind} (gives : Bool) (answer : Option ℕ) →
    given_by (look_up_op gives) answer ≡ None →
    IsAnswered (trace_in c) (trace_in d) (set_call (trace_in c).who (look_up_op gives) c.key (is_some answer)) →
    LookUpAnswers gives c d answer
answers_bare {c = c} {d = d} gives answer none answered =
    let p = trace_in c in
    let op = look_up_op gives in
    let P : Call → Type 0 = IsAnswered p (trace_in d) in
    let Q : Option ℕ → Type 0 =
    λ value. P (kept_call p.start (record (set_call p.who op c.key (is_some answer)) { value = value })) in
    let x = subst Q (sym none) (subst P (told_bare p.start p.who op c.key (is_some answer)) answered) in
    record { made = x.made; adds = x.adds }

-- a no gives none
pub none_given : (gives : Bool) → given_by (look_up_op gives) None ≡ None
none_given true = refl
none_given false = refl

-- no look-up inserts, and one that is a get gives the value
pub op_other : (gives : Bool) → look_up_op gives ≢ Insert
op_other true = λ e. absurd (cc)
op_other false = λ e. absurd (cc)

pub op_gets : (gives : Bool) → look_up_op gives ≡ Get → gives ≡ true
op_gets true e = refl
op_gets false e = absurd (cc)

-- another link stood than the one that was to show it
pub look_up_lost : {N : Type 0} {kind : Ghosts N} {c d : PendingCall N kind} (sight : Sight) (why rollback : Rollback) →
    FindsAnother (trace_in c) (trace_in d) (sighted sight) why → LookUpRollsBack c d sight rollback
look_up_lost sight why rollback x =
    record { quiet = x.quiet; adds_none = x.adds_none; loses = loses_link (sighted sight) why x.lost }

-- ---- what its answer costs

pub few_to_answer : (gives : Bool) → steps_to_answer gives ≤ 3
few_to_answer gives = grind arith
