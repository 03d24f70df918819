-- The steps of an insert, and what its refusals say.
use Rattle.vbr_list.proofs.Names.{◌≡◌, ◌≢◌, ℕ, ◌+◌, ◌-◌, ◌<◌, ◌≤◌, true, false, List, [], ◌∷◌, length, Result, Ok}
use Rattle.vbr_list.proofs.Names.{Err, inl, inr, refl, sym, ◌∙◌, subst, arith, IfOk, IfErr, is_err, counts_on}
use Rattle.vbr_list.proofs.Names.{CountsSteps, CountsWithin, EpochSpent, Ghosts, GoesOn, had_grown, had_on}
use Rattle.vbr_list.proofs.Names.{in_need_after, InsertShowsSpent, IsSpent, LeavesRoom, Meeting, missed_after}
use Rattle.vbr_list.proofs.Names.{needed_after, none_in_need, NoSlot, OutOfSteps, pass_in, PassView, PendingCall}
use Rattle.vbr_list.proofs.Names.{Prepares, Quiet, Refusal, shared_taken, shares_more, slots_kept_on, some_grown}
use Rattle.vbr_list.proofs.Names.{Start, TakesNone, TakesNoSlot, took_all, TookWithin, Trace, trace_in, TriesNoFlag}
use Rattle.vbr_list.proofs.Names.{TriesOnlyWhere, TriesWhereEmpty}
use Rattle.vbr_list.proofs.pieces.Going.{call_on, counts_step, within_call}

-- more steps after those that are within the budget
pub within_on : {p q r : Trace} {a b c budget : ℕ} → CountsWithin p q a b budget → CountsSteps q r b c → b ≤ c →
    c ≤ budget → CountsWithin p r a c budget
within_on x y low high = record { counts = counts_on x.counts y; within = (let u = x.within.0 in omega arith, high) }

-- they are those of a pass with the same trace
pub within_same : {p q r : Trace} {a b budget : ℕ} → r ≡ q → CountsWithin p q a b budget → CountsWithin p r a b budget
within_same {p} {q} {r} {a} {b} e x =
    record { counts = subst (λ (t : Trace). CountsSteps p t a b) (sym e) x.counts; within = x.within }

-- those of a call that went on
pub steps_gone : {N : Type 0} {kind : Ghosts N} → {c d : PendingCall N kind} → GoesOn c d →
    CountsWithin (trace_in c) (trace_in d) c.used d.used c.budget
steps_gone x = record { counts = x.goes.counts; within = (x.more, within_call x.call) }

-- ---- before a slot is linked

-- what takes no slot and keeps the hand
pub prepares_none : {N : Type 0} {kind : Ghosts N} → {c d : PendingCall N kind} → Meeting c d → Prepares c d
prepares_none {c = c} {d = d} x =
    let none = x.hand.takes_no_slot in
    record {
      call = x.call;
      counts = x.counts;
      advances = inl none.count;
      kept = none.kept;
      had = had_grown (pass_in c) (pass_in d) none.grows x.hand.hand;
      shared = shares_more (pass_in c) (pass_in d) none.shared;
      wins = none_in_need (pass_in c) (pass_in d) none.wins;
    }

-- a slot is taken after that
pub prepares_on : {N : Type 0} {kind : Ghosts N} → {c d e : PendingCall N kind} → GoesOn c d →
    length (pass_in d).pool ≤ length (pass_in e).pool + 1 → Prepares d e → Prepares c e
prepares_on {c = c} {d = d} {e = e} went one x =
    let none = went.goes.hand.takes_no_slot in
    let P : ℕ → Type 0 = λ budget. CountsWithin (trace_in d) (trace_in e) d.used e.used budget in
    let y = subst P went.call.budget x.counts in
    record {
      call = call_on went.call x.call;
      counts = within_on (steps_gone went) y.counts y.within.0 y.within.1;
      advances = needed_after {p = pass_in c} {q = pass_in d} {r = pass_in e} went.goes.quiet none x.advances;
      kept = slots_kept_on (pass_in c) (pass_in d) (pass_in e) none.kept x.kept;
      had = had_on (pass_in c) (pass_in d) (pass_in e)
          (had_grown (pass_in c) (pass_in d) none.grows went.goes.hand.hand) x.had;
      shared = shared_taken (pass_in c) (pass_in d) (pass_in e) none.shared one x.shared;
      wins = in_need_after (pass_in c) (pass_in d) (pass_in e) none.wins none.kept.free x.wins;
    }

-- ---- refusals

-- an own pool that is empty was so before, if one with slots keeps some
was_empty : (before now : List ℕ) → (before ≢ [] → now ≢ []) → now ≡ [] → before ≡ []
was_empty [] now some empty = refl
was_empty (s ∷ before) now some empty = absurd (some (λ e. absurd (cc)) empty)

-- the shared pool was looked at, after what took no slot
pub tries_after : {Holds : Type 0} (p q r : PassView) → TakesNoSlot p q → TriesWhereEmpty q r → Holds →
    TriesOnlyWhere Holds p r
tries_after p q r none (inl still) so = inl (still ∙ none.tries)
tries_after p q r none (inr empty) so = inr (was_empty p.pool q.pool (some_grown p q none.grows) empty.0, so)

-- and before what doesn't look at it
pub tries_before : {Holds Later : Type 0} (p q r : PassView) → TriesOnlyWhere Holds p q → TriesNoFlag q r →
    (Holds → Later) → TriesOnlyWhere Later p r
tries_before p q r (inl none) later so = inl (later ∙ none)
tries_before p q r (inr x) later so = inr (x.0, so x.1)

-- a refusal to take a slot, after what made no call
pub takes_after : (p q r : PassView) {a b budget : ℕ} → Quiet p.trace q.trace → (p.pool ≢ [] → q.pool ≢ []) →
    CountsWithin p.trace q.trace a b budget → Quiet q.trace r.trace → (refusal : Refusal) →
    TakesNone q r b budget refusal → TakesNone p r a budget refusal
takes_after p q r quiet some x more (OutOfSteps used) y =
    record { counts = within_on x y.counts.counts y.counts.within.0 y.counts.within.1; short = y.short }
takes_after p q r quiet some x more NoSlot y = record {
  empty = was_empty p.pool q.pool some y.empty;
  still = y.still;
  outside = λ slot low.
      missed_after quiet
      (y.outside slot
      (let P : Start → Type 0 = λ start. slot < start.shape.slots in subst P (sym quiet.same.start) low));
}
takes_after p q r quiet some x more (EpochSpent epoch) y =
    record {
      spent = y.spent;
      since = y.since;
      counts = within_on x y.counts.counts y.counts.within.0 y.counts.within.1;
      room = y.room;
    }

-- so it is of a call that went on
pub takes_gone : {N : Type 0} {kind : Ghosts N} {c d : PendingCall N kind} → GoesOn c d → (r : PassView) →
    Quiet (trace_in d) r.trace → (refusal : Refusal) → TakesNone (pass_in d) r d.used d.budget refusal →
    TakesNone (pass_in c) r c.used c.budget refusal
takes_gone {c = c} {d = d} gone r quiet refusal none =
    let P : ℕ → Type 0 = λ budget. TakesNone (pass_in d) r d.used budget refusal in
    takes_after (pass_in c) (pass_in d) r gone.goes.quiet
    (some_grown (pass_in c) (pass_in d) gone.goes.hand.takes_no_slot.grows) (steps_gone gone) quiet refusal
    (subst P gone.call.budget none)

-- what shows that the epoch is spent, with what is left of the budget
pub spent_rest : (p q : PassView) (used budget epoch : ℕ) → used ≤ budget → IsSpent q epoch →
    LeavesRoom p q (budget - used) → InsertShowsSpent p q used budget epoch
spent_rest p q used budget epoch le spent left =
    let h = left.room in
    record {
      spent = spent;
      since = used + left.steps;
      counts = record { counts = counts_step used left.steps left.took; within = (omega arith, omega arith) };
      room = omega arith;
    }

pub within_all : {p q : Trace} {since budget : ℕ} → CountsWithin p q 0 since budget → TookWithin p q budget
within_all {p} {q} {since} x = record { steps = since; within = x.within.1; took = took_all x.counts }

-- they are within what is no less
pub within_most : {p q : Trace} {since budget most : ℕ} → CountsWithin p q 0 since budget → since ≤ most →
    TookWithin p q most
within_most {p} {q} {since} x le = record { steps = since; within = le; took = took_all x.counts }

-- ---- an answer

pub if_failed : {T E : Type 0} {P : Type 0} (x : Result T E) → is_err x ≡ true → IfErr x (λ _. P) → P
if_failed x e p = grind arith

pub if_went : {T E : Type 0} {P : T → Type 0} (x : Result T E) → is_err x ≡ false → IfOk x P → (value : T) × P value
if_went (Ok value) e p = (value, p)
if_went (Err error) e p = absurd (cc)
