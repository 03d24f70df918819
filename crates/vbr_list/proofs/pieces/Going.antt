-- Pieces one after another: they make no call, their steps add up, and the slot in hand stays.
use Rattle.vbr_list.proofs.Names.{◌≡◌, ℕ, ◌+◌, ◌≤◌, Result, Ok, Err, refl, sym, ◌∙◌, subst, arith, inl, inr, ◌⊎◌}
use Rattle.vbr_list.proofs.Names.{IfOk, ◌-◌, ◌<◌, AtTable, counts_none, counts_on, CountsSteps, Ghosts, Goes, GoesOn}
use Rattle.vbr_list.proofs.Names.{IsOf, IsSame, IsSameCall, IsSameTable, Keeps, KeepsIn, KeepsOwn, Know, LeavesRoom}
use Rattle.vbr_list.proofs.Names.{pass_in, PassView, PendingCall, PIECE, Quiet, quiet_on, quiet_refl, ReadsIn}
use Rattle.vbr_list.proofs.Names.{Settles, TableView, TakesNoSlot, Took, took_all, TookWithin, Trace, trace_in, Tries}
use Rattle.vbr_list.proofs.pieces.KeptHands.{hand_refl, hand_on, own_kept}

-- what follows of the one and of the other
pub by_either : {A B C : Type 0} → A ⊎ B → (A → C) → (B → C) → C
by_either (inl a) f g = f a
by_either (inr b) f g = g b

-- the pass stays one of the table
pub of_on : {p q : Trace} {t : TableView} → IsSame p q → IsOf p t → IsOf q t
of_on s x = (s.table ∙ x.0, s.start ∙ x.1, s.passes ∙ x.2)

pub counts_step : {p q : Trace} (a n : ℕ) → Took p q n → CountsSteps p q a (a + n)
counts_step a n took = record { steps = n; sum = refl; took = took }

pub goes_refl : (p : PassView) (a : ℕ) → Goes p p a a
goes_refl p a = record { quiet = quiet_refl p.trace; counts = counts_none p.trace a; hand = hand_refl p }

pub goes_on : {p q r : PassView} {a b c : ℕ} → Goes p q a b → Goes q r b c → Goes p r a c
goes_on x y =
    record { quiet = quiet_on x.quiet y.quiet; counts = counts_on x.counts y.counts; hand = hand_on x.hand y.hand }

pub goes_step : {p q : PassView} (a n : ℕ) → Quiet p.trace q.trace → Took p.trace q.trace n → KeepsOwn p q →
    TakesNoSlot p q → Goes p q a (a + n)
goes_step a n quiet took own none = record { quiet = quiet; counts = counts_step a n took; hand = own_kept own none }

-- a call that reads
pub goes_read : {p q : PassView} {n : ℕ} (a : ℕ) → ReadsIn p q n → Goes p q a (a + n)
goes_read {n = n} a x = goes_step a n x.quiet x.took x.own x.takes_no_slot

pub tries_refl : (p : PassView) (a budget : ℕ) → a ≤ budget → Tries p p a a budget
tries_refl p a budget h = record { goes = goes_refl p a; within = (omega arith, h) }

pub tries_on : {p q r : PassView} {a b c budget : ℕ} → Tries p q a b budget → Goes q r b c → b ≤ c → c ≤ budget →
    Tries p r a c budget
tries_on x y le high = record { goes = goes_on x.goes y; within = (let u = x.within.0 in omega arith, high) }

pub took_same : {p q : Trace} (m n : ℕ) → m ≡ n → Took p q n → Took p q m
took_same {p} {q} m n e took = subst (Took p q) (sym e) took

-- a call that reads, whose steps are counted in another form
pub goes_counted : {p q : PassView} (a m n : ℕ) → m ≡ n → ReadsIn p q n → Goes p q a (a + m)
goes_counted a m n e x = goes_step a m x.quiet (took_same m n e x.took) x.own x.takes_no_slot

pub within_of : {p q : Trace} (used budget : ℕ) → used ≤ budget → CountsSteps p q 0 used → TookWithin p q budget
within_of used budget le counts = record { steps = used; within = le; took = took_all counts }

-- what leaves room in a budget is the steps that were counted
pub room_left : {p q : PassView} (used budget : ℕ) → CountsSteps p.trace q.trace 0 used → LeavesRoom p q budget →
    used + PIECE ≤ budget
room_left used budget counts left =
    let x = (took_all counts).made in let y = left.took.made in let room = left.room in omega (arith, x, y, room)

-- the pass stays the same one at the same table from piece to piece
pub table_on : {N : Type 0} {kind : Ghosts N} → {b c d : AtTable N kind} → IsSameTable b c → IsSameTable c d →
    IsSameTable b d
table_on x y = record { pass = y.pass ∙ x.pass; slots = y.slots ∙ x.slots }

-- so does a call
pub call_on : {N : Type 0} {kind : Ghosts N} → {b c d : PendingCall N kind} → IsSameCall b c → IsSameCall c d →
    IsSameCall b d
call_on x y =
    record { at = table_on x.at y.at; key = y.key ∙ x.key; bucket = y.bucket ∙ x.bucket; budget = y.budget ∙ x.budget }

-- after what it did first, it has gone on
pub goes_further : {N : Type 0} {kind : Ghosts N} → {b c d : PendingCall N kind} → IsSameCall b c →
    Tries (pass_in b) (pass_in c) b.used c.used b.budget → GoesOn c d → GoesOn b d
goes_further same tries v =
    record {
      call = call_on same v.call;
      goes = goes_on tries.goes v.goes;
      more = let x = tries.within.0 in
          let y = v.more in
          omega (arith, x, y);
    }

pub call_refl : {N : Type 0} {kind : Ghosts N} → (c : PendingCall N kind) → IsSameCall c c
call_refl c = record { at = record { pass = refl; slots = refl }; key = refl; bucket = refl; budget = refl }

-- it may be answered by one step
pub settles_step : {N : Type 0} {kind : Ghosts N} → {c d : PendingCall N kind} → IsSameCall c d → d.used ≡ c.used + 1 →
    KeepsIn (pass_in c) (pass_in d) 1 → Settles c d
settles_step {c = c} {d = d} same used keeps =
    record {
      call = same;
      counts = subst (CountsSteps (trace_in c) (trace_in d) c.used) (sym used) (counts_step c.used 1 keeps.took);
      hand = own_kept keeps.own keeps.takes_no_slot;
      more = omega (arith, used);
    }

-- the steps of a call are within the budget that it began with
pub within_call : {N : Type 0} {kind : Ghosts N} → {c d : PendingCall N kind} → IsSameCall c d → d.used ≤ c.budget
within_call {c} {d} x = let u = d.within in let e = x.budget in omega (arith, u, e)

-- steps that it made leave less of the budget
pub less_left : {N : Type 0} {kind : Ghosts N} → {c d e : PendingCall N kind} → GoesOn c d → IsSameCall d e →
    d.used < e.used → e.budget - e.used < c.budget - c.used
less_left {e = e} went same less =
    let more = went.more in
    let budget = (call_on went.call same).budget in
    let high = e.within in
    omega (arith, more, less, budget, high)

-- what follows of each value is so of the value that was given
pub ok_as : {T E : Type 0} {P Q : T → Type 0} (x : Result T E) → ((value : T) → P value → Q value) → IfOk x P → IfOk x Q
ok_as (Ok value) f p = f value p
ok_as (Err error) f p = tt

-- what is known stays where nothing is done
pub keeps_still : (know : Know) → Keeps know know
keeps_still know = record { epoch = refl; reads = λ read k. k }
