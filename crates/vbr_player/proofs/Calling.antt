-- Calls in turn, one part after the other, and what they cost.
use Rattle.std.proofs.Common.{◌≡◌, ℕ, zero, suc, ◌+◌, eqb, cond, List, [], ◌∷◌, ◌++◌, refl, sym, ap, subst, ◌∙◌, arith}
use Rattle.std.proofs.lemmas.Bool.{ne_eqb}
use Rattle.std.proofs.lemmas.List.Sums.{sum_by-append}
use Rattle.vbr_machine.specs.Runs.{BeginsFor, NoneOf}
use Rattle.vbr_machine.specs.declared.event.Event.{Event}
use Rattle.vbr_slots.specs.views.Views.{steps_in}
use Rattle.vbr_set.specs.calls.Members.{MemberView}
use Rattle.vbr_transcript.specs.Calls.{Outcome}
use Rattle.vbr_player.specs.Calling.{CallsInTurn, HasMetOften, IsCalled}
use Rattle.vbr_script.specs.declared.script.Kind.{Kind}

-- ---- meetings

-- some, and then others
pub often_on : (times more : ℕ) (p q r : MemberView) → HasMetOften times p q → HasMetOften more q r →
    HasMetOften (times + more) p r
often_on times zero p q r first then =
    let all : times ≡ times + zero = omega arith in
    subst (λ (k : ℕ). HasMetOften k p r) all (subst (HasMetOften times p) (sym then) first)
often_on times (suc more) p q r first then =
    let all : suc (times + more) ≡ times + suc more = omega arith in
    subst (λ (k : ℕ). HasMetOften k p r) all
    (then.0, often_on times more p q then.0 first then.1, then.2, then.3, then.4)

-- ---- calls

-- after some meetings
turn_behind : (kind : Kind) (budget times : ℕ) (p q r : MemberView) (outcomes : List Outcome) → HasMetOften times p q →
    CallsInTurn kind budget outcomes q r → CallsInTurn kind budget outcomes p r
turn_behind kind budget times p q r [] first then = (times + then.0, often_on times then.0 p q r first then.1)
turn_behind kind budget times p q r (outcome ∷ outcomes) first then =
    (times + then.0, then.1, often_on times then.0 p q then.1 first then.2, then.3, then.4, then.5)

-- some lines, and then others
pub turns_on : (kind : Kind) (budget : ℕ) (p q r : MemberView) (outcomes more : List Outcome) →
    CallsInTurn kind budget outcomes p q → CallsInTurn kind budget more q r →
    CallsInTurn kind budget (outcomes ++ more) p r
turns_on kind budget p q r [] more first then = turn_behind kind budget first.0 p q r more first.1 then
turns_on kind budget p q r (outcome ∷ outcomes) more first then =
    (first.0, first.1, first.2, first.3, first.4, turns_on kind budget first.3 q r outcomes more first.5 then)

-- and then meetings
pub turns_met : (kind : Kind) (budget : ℕ) (p q r : MemberView) (outcomes : List Outcome) →
    CallsInTurn kind budget outcomes p q → (times : ℕ) × HasMetOften times q r → CallsInTurn kind budget outcomes p r
turns_met kind budget p q r [] first met = (first.0 + met.0, often_on first.0 met.0 p q r first.1 met.1)
turns_met kind budget p q r (outcome ∷ outcomes) first met =
    (first.0, first.1, first.2, first.3, first.4, turns_met kind budget first.3 q r outcomes first.5 met)

-- one call alone
pub one_turn : (kind : Kind) (budget : ℕ) (outcome : Outcome) (p q : MemberView) → IsCalled kind budget outcome p q →
    CallsInTurn kind budget (outcome ∷ []) p q
one_turn kind budget outcome p q called = (0, p, refl, q, called, (0, refl))

-- ---- steps

-- others make none of a caller's
none_made : (who : ℕ) (events : List Event) → NoneOf who events → steps_in who events ≡ 0
none_made who [] none = refl
none_made who (event ∷ events) none =
    let test = λ (e : Event). cond {A = ℕ} (eqb e.pass who) 1 0 in
    sum_by-append test (event ∷ []) events
    ∙ (λ i. 0 + cond {A = ℕ} (ne_eqb event.pass who none.0 i) 1 0 + none_made who events none.1 i)

-- all steps of a caller are among those that it has seen
pub steps_seen : (who : ℕ) (seen run : List Event) → BeginsFor who seen run → steps_in who run ≡ steps_in who seen
steps_seen who seen run begins =
    let test = λ (e : Event). cond {A = ℕ} (eqb e.pass who) 1 0 in
    let both : steps_in who (seen ++ begins.0) ≡ steps_in who seen + steps_in who begins.0 =
    sum_by-append test seen begins.0 in
    let none : steps_in who begins.0 ≡ 0 = none_made who begins.0 begins.2 in
    ap (steps_in who) begins.1 ∙ both
    ∙ (let e : steps_in who seen + steps_in who begins.0 ≡ steps_in who seen = omega arith in e)
