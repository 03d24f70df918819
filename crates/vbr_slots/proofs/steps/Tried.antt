-- What a step does to the slot that its pass tried last.
use Rattle.std.proofs.Common.{◌≡◌, ℕ, ◌==◌, Bool, true, false, cond, List, [], ◌∷◌, ◌++◌, refl, sym, ap, ◌∙◌, eq-eqb}
use Rattle.std.proofs.Common.{inl, inr}
use Rattle.std.proofs.lemmas.Bool.{cases_Bool, eqb-true}
use Rattle.std.specs.Prelude.{◌⊎◌}
use Rattle.vbr_machine.specs.Runs.{NoneOf}
use Rattle.vbr_machine.specs.declared.event.Event.{Event}
use Rattle.vbr_machine.specs.declared.event.Step.{Step}
use Rattle.vbr_slots.specs.Tokens.{Since}
use Rattle.vbr_machine.specs.Start.{Start}
use Rattle.vbr_slots.specs.pools.Tried.{first_tried, last_tried, tried_by, tried_in}
use Rattle.vbr_slots.specs.views.Views.{Trace, Did, event_of}

-- events in a row
tried_on : (who : ℕ) (events more : List Event) (before : ℕ) →
    tried_in who (events ++ more) before ≡ tried_in who more (tried_in who events before)
unfolding tried_in
tried_on who [] more before = refl
tried_on who (e ∷ events) more before = tried_on who events more (cond (e.pass == who) (tried_by e.step before) before)

-- events of others
pub tried_others : (who : ℕ) (events : List Event) (before : ℕ) → NoneOf who events →
    tried_in who events before ≡ before
unfolding tried_in
tried_others who [] before none = refl
tried_others who (e ∷ events) before none =
    ap (λ (b : Bool). tried_in who events (cond b (tried_by e.step before) before)) (other (cases_Bool (e.pass == who)))
    ∙ tried_others who events before none.1
  where
    other : ((e.pass == who) ≡ true) ⊎ ((e.pass == who) ≡ false) → (e.pass == who) ≡ false
    other (inl own) = absurd (none.0 (eqb-true e.pass who own))
    other (inr apart) = apart

-- a pass that has seen nothing tried none
pub tried_none : (who before : ℕ) → before ≡ tried_in who [] before
unfolding tried_in
tried_none who before = refl

-- where a pass begins
abbrev begins_with : Trace → ℕ
begins_with p = first_tried p.start.shape p.passes p.who

-- the same pass begins with the same slot
begins_same : (p q : Trace) → (q.start ≡ p.start) × (q.passes ≡ p.passes) × (q.who ≡ p.who) →
    begins_with q ≡ begins_with p
begins_same p q same =
    ap (λ (start : Start). first_tried start.shape q.passes q.who) same.0
    ∙ ap (λ (passes : ℕ). first_tried p.start.shape passes q.who) same.1
    ∙ ap (first_tried p.start.shape p.passes) same.2

-- a step of the pass
tried_own : (who : ℕ) (step : Step) (before : ℕ) → tried_in who (event_of who step ∷ []) before ≡ tried_by step before
unfolding tried_in
tried_own who step before = ap (λ (b : Bool). cond b (tried_by step before) before) (eq-eqb who who refl)

-- after a step the slot is the one that it tried, if it is of that kind, else the one before
pub did_tried : {step : Step} {p q : Trace} {r : ℕ} → Did step p q r → last_tried q ≡ tried_by step (last_tried p)
unfolding last_tried
did_tried {step} {p} {q} d =
    let first = begins_with p in
    ap (λ (before : ℕ). tried_in q.who q.seen before) (begins_same p q (d.same.1, d.same.2, d.same.3))
    ∙ ap (λ (who : ℕ). tried_in who q.seen first) d.same.3
    ∙ ap (λ (seen : List Event). tried_in p.who seen first) d.seen
    ∙ tried_on p.who (p.seen ++ d.rest) (event_of p.who step ∷ []) first
    ∙ tried_own p.who step (tried_in p.who (p.seen ++ d.rest) first)
    ∙ ap (tried_by step)
    (tried_on p.who p.seen d.rest first ∙ tried_others p.who d.rest (tried_in p.who p.seen first) d.none)

-- a step of another kind leaves it
pub keeps_tried : {step : Step} {p q : Trace} {r slot : ℕ} → Did step p q r →
    tried_by step (last_tried p) ≡ last_tried p → slot ≡ last_tried p → slot ≡ last_tried q
keeps_tried d kind same = same ∙ sym kind ∙ sym (did_tried d)

-- what others did leaves it
pub since_tried : {p q : Trace} {slot : ℕ} → Since p q → slot ≡ last_tried p → slot ≡ last_tried q
unfolding last_tried
since_tried {p} {q} s same =
    let first = begins_with p in
    same
    ∙ sym (tried_others p.who s.rest (tried_in p.who p.seen first) s.none)
    ∙ sym (tried_on p.who p.seen s.rest first)
    ∙ ap (λ (seen : List Event). tried_in p.who seen first) (sym s.seen)
    ∙ ap (λ (who : ℕ). tried_in who q.seen first) (sym s.same.3)
    ∙ ap (λ (before : ℕ). tried_in q.who q.seen before) (sym (begins_same p q (s.same.1, s.same.2, s.same.3)))
