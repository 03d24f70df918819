-- Reading a value, and the steps that it takes.
use Rattle.vbr_list.proofs.Names.{◌≡◌, ℕ, ◌+◌, ◌<◌, ◌≤◌, Bool, true, arith, sym, ap, ◌∙◌, subst, At, counts_on}
use Rattle.vbr_list.proofs.Names.{CountsSteps, Ghosts, Goes, Held, IsCur, IsSame, IsSameCall, IsSlot, KeepsHand}
use Rattle.vbr_list.proofs.Names.{KeepsIn, Know, pass_in, PassView, PendingCall, ReadsIn, Settles, Start}
use Rattle.vbr_list.proofs.Names.{steps_to_update, steps_to_value_of, steps_where, Trace, trace_in}
use Rattle.vbr_list.proofs.pieces.Going.{counts_step, goes_counted}
use Rattle.vbr_list.proofs.pieces.KeptHands.{hand_on, own_kept}

-- whether the nodes of a pass's table have values is what the kind of its nodes says
pub values_as : {now table : Start} {kind says test : Bool} → now ≡ table → table.shape.values ≡ kind → says ≡ kind →
    says ≡ test → now.shape.values ≡ test
values_as of is said tested = ap (λ (d : Start). d.shape.values) of ∙ is ∙ sym said ∙ tested

-- the steps that the table's shape asks are those of the pass's start
pub steps_read : {n : ℕ} {table now before : Start} → n ≡ steps_to_value_of table → now ≡ table → now ≡ before →
    n ≡ steps_to_value_of before
steps_read e of same = e ∙ ap steps_to_value_of (sym of ∙ same)

-- what is so where nodes have values is so later, where they have
pub valued_since : {X : Type 0} {p q : Trace} → IsSame p q → (p.start.shape.values ≡ true → X) →
    q.start.shape.values ≡ true → X
valued_since same valued has = valued (sym (ap (λ (d : Start). d.shape.values) same.start) ∙ has)

-- a value is read, and one step comes after that
pub read_then_step : {p q r : PassView} {table : Start} (a steps : ℕ) → steps ≡ steps_to_value_of table →
    q.trace.start ≡ table → ReadsIn p q (steps_to_value_of p.trace.start) → KeepsIn q r 1 →
    CountsSteps p.trace r.trace a (a + steps + 1) × KeepsHand p r
read_then_step {p} {q} a steps e of reads keeps =
    let same = steps_read e of reads.quiet.same.start in
    let first : Goes p q a (a + steps) = goes_counted a steps (steps_to_value_of p.trace.start) same reads in (
      counts_on first.counts (counts_step (a + steps) 1 keeps.took),
      hand_on first.hand (own_kept keeps.own keeps.takes_no_slot),
    )

-- it may be answered by that step
pub settles_read : {N : Type 0} {kind : Ghosts N} → {c d : PendingCall N kind} {q : PassView} {table : Start}
    {steps : ℕ} → IsSameCall c d → d.used ≡ c.used + steps + 1 → steps ≡ steps_to_value_of table →
    q.trace.start ≡ table → ReadsIn (pass_in c) q (steps_to_value_of (trace_in c).start) → KeepsIn q (pass_in d) 1 →
    Settles c d
settles_read {c = c} {d = d} {steps = steps} same used e of reads keeps =
    let then = read_then_step {r = pass_in d} c.used steps e of reads keeps in
    record {
      call = same;
      counts = subst (CountsSteps (trace_in c) (trace_in d) c.used) (sym used) then.0;
      hand = then.1;
      more = omega (arith, used);
    }

pub few_to_value : (start : Start) → steps_to_value_of start ≤ 2
few_to_value start = grind arith

-- so it is of the steps that the table's shape asks
pub few_read : {n : ℕ} (values : Bool) → n ≡ steps_where values → n ≤ 2
few_read values e = grind (arith, e)

pub few_to_update : (start : Start) → (0 < steps_to_update start) × (steps_to_update start ≤ 4)
few_to_update start = grind arith

pub slot_at : {know : Know} {key : ℕ} {pred cur : Held} {present : Bool} → IsCur know key pred cur present →
    IsSlot cur.at
slot_at x = let P : At → Type 0 = IsSlot in subst P (sym x.place) tt
