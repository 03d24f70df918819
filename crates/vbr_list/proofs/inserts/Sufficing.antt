-- The steps of an insert: of a slot, and of a pass that was alone.
use Rattle.vbr_list.proofs.Names.{◌≡◌, ◌≢◌, ℕ, ◌<◌, ◌≤◌, List, [], Result, Ok, Err, sym, subst, arith, IfErr, IfOk}
use Rattle.vbr_list.proofs.Names.{OnOk, alone_gained, Begins, disturbed, enough_among, enough_to_look_up}
use Rattle.vbr_list.proofs.Names.{enough_to_search, enough_to_search_among, gained, gained_on, gained_since, Ghosts}
use Rattle.vbr_list.proofs.Names.{GoesOn, IsAlone, LacksSteps, listed_for, more_lost, most_to_take}
use Rattle.vbr_list.proofs.Names.{most_to_take_among, none_lost, pass_in, PassView, PendingCall, Quiet, Refusal}
use Rattle.vbr_list.proofs.Names.{some_grown, Start, steps_for_slot, steps_to_take_among, TookWithin, Trace, trace_in}
use Rattle.vbr_list.proofs.traversals.Disturbing.{undisturbed}

-- where an own pool with slots keeps some, a slot is taken in no more steps than were allowed for before
take_later : (start : Start) (before now : List ℕ) (less more : ℕ) → less ≤ more → (before ≢ [] → now ≢ []) →
    steps_to_take_among start now less ≤ most_to_take_among start before more
take_later start before now less more le some = grind arith

pub take_after : (p q : PassView) (r : Trace) → Quiet p.trace q.trace → (p.pool ≢ [] → q.pool ≢ []) →
    steps_to_take_among q.trace.start q.pool (gained q.trace r) ≤ steps_for_slot p r
take_after p q r quiet some =
    let P : Start → Type 0 = λ start. steps_to_take_among start q.pool (gained q.trace r) ≤ steps_for_slot p r in
    subst P (sym quiet.same.start)
    (take_later p.trace.start p.pool q.pool (gained q.trace r) (gained p.trace r)
    (gained_since p.trace q.trace r quiet.same quiet.seen) some)

-- so it is of a call that went on
pub taken_after : {N : Type 0} {kind : Ghosts N} {c d : PendingCall N kind} → GoesOn c d → (r : Trace) →
    steps_to_take_among (trace_in d).start (pass_in d).pool (gained (trace_in d) r) ≤ steps_for_slot (pass_in c) r
taken_after {c = c} {d = d} gone r =
    take_after (pass_in c) (pass_in d) r gone.goes.quiet
    (some_grown (pass_in c) (pass_in d) gone.goes.hand.takes_no_slot.grows)

-- and in no more while others have taken more
pub slot_later : (p : PassView) (q r : Trace) → Begins q.seen r.seen → steps_for_slot p q ≤ steps_for_slot p r
slot_later p q r b =
    let more = more_lost p.pool (gained p.trace q) (gained p.trace r) (gained_on p.trace q r b) in omega (arith, more)

-- alone, none have
pub slot_alone : (p : PassView) (q : Trace) → IsAlone p.trace q → steps_for_slot p q ≡ most_to_take p.trace.start p.pool
slot_alone p q alone =
    let none = none_lost p.pool (gained p.trace q) (alone_gained p.trace q alone) in omega (arith, none)

pub take_least : (p : PassView) (q : Trace) → 68 ≤ steps_for_slot p q
take_least p q = grind arith

-- a budget that is short of so many steps is short of more
pub lacks_more : (m n budget : ℕ) (refusal : Refusal) → m ≤ n → LacksSteps m budget refusal →
    LacksSteps n budget refusal
lacks_more m n budget refusal le short = grind arith

pub lacks : (n budget : ℕ) (refusal : Refusal) → budget < n → LacksSteps n budget refusal
lacks n budget refusal short = grind arith

-- what is so of a pass that was disturbed so often, and takes a slot in so many steps, is so of one that was alone
pub lone : (P : ℕ → ℕ → Type 0) (p : PassView) (q : Trace) (key : ℕ) →
    P (disturbed p.trace q key) (steps_for_slot p q) → IsAlone p.trace q → P 0 (most_to_take p.trace.start p.pool)
lone P p q key x alone = subst (P 0) (slot_alone p q alone) (undisturbed (λ t. P t (steps_for_slot p q)) key x alone)

pub took_more : {p q : Trace} {m n : ℕ} → TookWithin p q m → m ≤ n → TookWithin p q n
took_more x le = record { steps = x.steps; within = (let few = x.within in omega (arith, few, le)); took = x.took }

pub lone_lacks : (most : ℕ → ℕ → ℕ) (p : PassView) (q : Trace) (key budget : ℕ) (refusal : Refusal) {least : ℕ} →
    LacksSteps (most (disturbed p.trace q key) (steps_for_slot p q)) budget refusal →
    most 0 (most_to_take p.trace.start p.pool) ≤ least → IsAlone p.trace q → LacksSteps least budget refusal
lone_lacks most p q key budget refusal {least} short le alone =
    lacks_more (most 0 (most_to_take p.trace.start p.pool)) least budget refusal le
    (lone (λ t taking. LacksSteps (most t taking) budget refusal) p q key short alone)

pub lone_costs : (most : ℕ → ℕ → ℕ) (p : PassView) (q : Trace) (key : ℕ) {least : ℕ} →
    TookWithin p.trace q (most (disturbed p.trace q key) (steps_for_slot p q)) →
    most 0 (most_to_take p.trace.start p.pool) ≤ least → IsAlone p.trace q → TookWithin p.trace q least
lone_costs most p q key x le alone =
    took_more (lone (λ t taking. TookWithin p.trace q (most t taking)) p q key x alone) le

-- what a call took that was disturbed so often, it took alone
pub took_alone : (most : ℕ → ℕ) {p q : Trace} (key : ℕ) {least : ℕ} → TookWithin p q (most (disturbed p q key)) →
    most 0 ≤ least → IsAlone p q → TookWithin p q least
took_alone most {p} {q} key took le alone = took_more (undisturbed (λ t. TookWithin p q (most t)) key took alone) le

-- a budget that was short where it was disturbed so often was short alone: of a search
pub search_lacks : (p q : Trace) (key budget : ℕ) →
    budget < enough_to_search_among (listed_for p key) (disturbed p q key) → IsAlone p q →
    budget < enough_to_search p key
search_lacks p q key budget short alone =
    let x = undisturbed (λ t. budget < enough_to_search_among (listed_for p key) t) key short alone in omega (arith, x)

-- and of a look-up
pub look_up_lacks : (p q : Trace) (key budget : ℕ) → budget < enough_among (listed_for p key) (disturbed p q key) →
    IsAlone p q → budget < enough_to_look_up p key
look_up_lacks p q key budget short alone =
    let x = undisturbed (λ t. budget < enough_among (listed_for p key) t) key short alone in omega (arith, x)

-- what is so of each error of an answer
pub each_error : {A E : Type 0} (P Q : E → Type 0) (x : Result A E) → ((e : E) → P e → Q e) → IfErr x P → IfErr x Q
each_error P Q x f h = grind (arith, f)

-- what is so of any error is so of an answer's
pub any_error : {A E : Type 0} {P : E → Type 0} (x : Result A E) → ((e : E) → P e) → IfErr x P
any_error x f = grind (arith, f)

-- what follows of an answer is so of the answer that was given
pub on_ok : {A E P Q : Type 0} (x : Result A E) → (P → Q) → OnOk x P → IfOk x (λ _. Q)
on_ok (Ok value) f p = f p
on_ok (Err error) f p = tt
