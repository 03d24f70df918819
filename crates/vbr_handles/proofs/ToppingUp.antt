-- A call and the top-up after it stay within the budget, and are what a full handle tells.
use Rattle.vbr_handles.proofs.Names.{◌≡◌, ℕ, ◌+◌, ◌^◌, ◌<◌, ◌≤◌, Bool, true, false, sym, ap, ◌∙◌, subst, arith, ◌/◌}
use Rattle.vbr_handles.proofs.Names.{◌&&◌, ℤ, Option, None, Some, Result, false≢true, PassLaw, PassView, Trace}
use Rattle.vbr_handles.proofs.Names.{counted_steps, steps_of, TookWithin, Refusal, budget_of, TopsUpWhere, lacks_slots}
use Rattle.vbr_handles.proofs.Names.{left_of, WritesGiven, Owner, min, is_some, Member, CallsAndTopsUp, CallsBySteps}
use Rattle.vbr_handles.proofs.Names.{TopsUpReserve, reserve_of, GivesUnlessHeld}
use Rattle.vbr_slots.proofs.Lemmas.{took_on}
use Rattle.vbr_at_table.specs.pools.Reserving.{TopsUp}
use Rattle.vbr_at_table.specs.declared.aside.Aside.{Aside}
use Rattle.vbr_handles.specs.Calls.{TellsUnlessHeld, UnlessHeld}
use Rattle.vbr_handles.specs.Codes.{call_code}

-- after a call of so many steps no more are left than those
few_left : (budget before steps since more : ℕ) → since ≡ before + steps → steps ≤ budget → budget < 2 ^ 32 →
    more ≤ left_of budget (counted_steps before) (counted_steps since) → steps + more ≤ budget
few_left budget before steps since more is within small few = omega (arith, few, is, within, small)

-- a member that was topped up with these tries
pub topped : {m n : Member} {budget before left wanted tries taken steps : ℕ} {p : Trace} → n.set ≡ m.set →
    n.aside ≡ m.aside → PassLaw n.pass → budget < 2 ^ 32 → before ≡ counted_steps (steps_of p) →
    left ≡ left_of budget before (counted_steps (steps_of m.pass.trace)) → wanted ≡ reserve_of m.set →
    tries ≡ min left (wanted / 8 + 1) → TopsUp m.pass n.pass wanted tries taken steps → TopsUpReserve budget p m n
topped {m} {n} {budget} {before} {left} {wanted} {tries} {taken} {steps} {p} set aside law small counted left_is
    wanted_is tries_is tops = record {
      set = set;
      aside = aside;
      taken = taken;
      steps = steps;
      small = small;
      tops_up = subst (λ (x : ℕ × ℕ). TopsUp m.pass n.pass x.0 x.1 taken steps)
          (λ i. (
            wanted_is i,
            (tries_is ∙ (λ j.
                min ((left_is ∙ ap (λ (x : ℕ). left_of budget x (counted_steps (steps_of m.pass.trace))) counted) j)
                (wanted_is j / 8 + 1))) i,
          )) tops;
      law = law;
    }

-- after a call within the budget, and a top-up, the budget is kept
pub within_budget : (b : Bool) (budget : ℕ) (p : Trace) (m n : Member) → TookWithin p m.pass.trace budget →
    TopsUpWhere b budget p m n → TookWithin p n.pass.trace budget
within_budget false budget p m n steps same =
    subst (λ (x : Member). TookWithin p x.pass.trace budget) (sym same) steps
within_budget true budget p m n steps t =
    let few = t.tops_up.tries in
    let sum = few_left budget (steps_of p) steps.steps (steps_of m.pass.trace) t.steps steps.took.made steps.within
    t.small (omega (arith, few)) in
    record {
      steps = steps.steps + t.steps;
      within = sum;
      took = took_on steps.steps t.steps steps.took t.tops_up.takes.took;
    }

-- what is put aside stays so
still_aside : (b : Bool) (budget : ℕ) (p : Trace) (m n : Member) → TopsUpWhere b budget p m n → n.aside ≡ m.aside
still_aside true budget p m n tops = tops.aside
still_aside false budget p m n same = ap (λ (x : Member). x.aside) same

-- ---- what a full handle tells

-- an owner that was asked whether it is empty, and whose member was then lent, had that member
pub had_member : {owner asked : Owner Member} {m : Member} → asked ≡ owner → asked.member ≡ Some m →
    Some m ≡ owner.member
had_member same lent = sym lent ∙ ap (λ (o : Owner Member). o.member) same

-- where no slot is held, and where one is
unless_held : (aside : Option Aside) (R T : Type 0) → is_some aside ≡ false → T → UnlessHeld aside R T
unless_held None R T free told = told
unless_held (Some a) R T free told = absurd (false≢true (sym free))

-- so a call of its member, which holds no slot, is what the handle tells
pub tells_call : (Calls : Member → Member → Result Bool Refusal → Type 0) {owner asked : Owner Member} {m n : Member}
    {code : ℤ} {answer : Result Bool Refusal} → asked ≡ owner → asked.member ≡ Some m → is_some m.aside ≡ false →
    code ≡ call_code answer → Calls m n answer × (n.aside ≡ m.aside) →
    TellsUnlessHeld Calls owner.member (Some n) code
tells_call Calls {owner} {asked} {m} {n} {code} {answer} same lent free is made =
    subst (λ (o : Option Member). TellsUnlessHeld Calls o (Some n) code) (had_member same lent)
    (unless_held m.aside _ _ free (record { answer = answer; is = is; called = made.0; aside = made.1 }))

-- and so it is of a call that gives a value
pub gives_call : {A : Type 0} (Calls : Member → Member → Result (Option A) Refusal → Type 0)
    (coded : Result (Option A) Refusal → ℤ) (old new : A) {owner asked : Owner Member} {m n : Member} {code : ℤ}
    {answer : Result (Option A) Refusal} → asked ≡ owner → asked.member ≡ Some m → is_some m.aside ≡ false →
    code ≡ coded answer → Calls m n answer × (n.aside ≡ m.aside) → WritesGiven answer old new →
    GivesUnlessHeld Calls coded owner.member (Some n) old new code
gives_call {A} Calls coded old new {owner} {asked} {m} {n} {code} {answer} same lent free is made writes =
    subst (λ (o : Option Member). GivesUnlessHeld Calls coded o (Some n) old new code) (had_member same lent)
    (unless_held m.aside _ _ free
    (record { answer = answer; is = is; called = made.0; aside = made.1; writes = writes }))

-- the call by the budget that so many steps give, and the top-up after it, where the pass was shown, and its steps
-- were counted, before the call
pub topped_up : {A : Type 0} (Calls : ℕ → Member → Member → Result A Refusal → Type 0) (adds : Result A Refusal → Bool)
    (steps : ℕ) {budget : ℕ} {m : Member} {shown : PassView} {before : ℕ} (b n : Member) (answer : Result A Refusal)
    (added : Bool) → budget ≡ budget_of m steps → Calls budget m b answer → b.aside ≡ m.aside →
    TookWithin m.pass.trace b.pass.trace budget → added ≡ adds answer → shown ≡ m.pass →
    before ≡ counted_steps (steps_of shown.trace)
    → ((p : Trace) → before ≡ counted_steps (steps_of p) → TopsUpWhere (added && lacks_slots b) budget p b n) →
    CallsBySteps Calls adds steps m n answer × (n.aside ≡ m.aside)
topped_up {A} Calls adds steps {budget} {m} {shown} {before} b n answer added gives called aside took is is_shown
    counted tops =
    let tops_up : TopsUpWhere (added && lacks_slots b) budget m.pass.trace b n =
    tops m.pass.trace (counted ∙ ap (λ (p : PassView). counted_steps (steps_of p.trace)) is_shown) in (
      subst (λ (x : ℕ). CallsAndTopsUp (Calls x) adds x m n answer) gives
          (record {
            between = b;
            called = called;
            tops_up = subst (λ (x : Bool). TopsUpWhere (x && lacks_slots b) budget m.pass.trace b n) is tops_up;
            steps = within_budget (added && lacks_slots b) budget m.pass.trace b n took tops_up;
          }),
      still_aside (added && lacks_slots b) budget m.pass.trace b n tops_up ∙ aside,
    )
