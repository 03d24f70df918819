-- How many steps of a kind a pass has made, one step further.
use Rattle.std.proofs.Common.{◌≡◌, ◌≢◌, ℕ, ◌+◌, ◌==◌, ◌&&◌, Bool, true, false, cond, List, [], ◌∷◌, ◌++◌, refl, ap, ◌∙◌}
use Rattle.std.proofs.Common.{eq-eqb, arith}
use Rattle.std.specs.Prelude.{count_by}
use Rattle.std.proofs.lemmas.Bool.{ne_eqb}
use Rattle.std.proofs.lemmas.List.Sums.{sum_by-append}
use Rattle.vbr_machine.specs.Disturbances.{one_if}
use Rattle.vbr_machine.specs.Runs.{NoneOf}
use Rattle.vbr_machine.specs.declared.event.Event.{Event}
use Rattle.vbr_machine.specs.declared.event.Step.{Step}
use Rattle.vbr_slots.specs.views.Views.{Trace, Did, event_of}
use Rattle.vbr_at_table.specs.costs.StepKinds.{made_of}

abbrev made_in : (Step → Bool) → ℕ → List Event → ℕ
made_in is who events = count_by (λ (e : Event). (e.pass == who) && is e.step) events

-- whether an event is such a step of a pass, as a number
abbrev one_of : (Step → Bool) → ℕ → Event → ℕ
one_of is who e = made_in is who (e ∷ [])

plus_none : (n : ℕ) → n + 0 ≡ n
plus_none n = omega arith

as_number : (b : Bool) → 0 + cond b 1 0 ≡ one_if b
as_number true = refl
as_number false = refl

module _ (is : Step → Bool) where
  other_one : (who : ℕ) (e : Event) → e.pass ≢ who → one_of is who e ≡ 0
  other_one who e ne = ap (λ (b : Bool). 0 + cond (b && is e.step) 1 0) (ne_eqb e.pass who ne)

  own_one : (who : ℕ) (step : Step) → one_of is who (event_of who step) ≡ one_if (is step)
  own_one who step = ap (λ (b : Bool). 0 + cond (b && is step) 1 0) (eq-eqb who who refl) ∙ as_number (is step)

  both : (who : ℕ) (xs ys : List Event) → made_in is who (xs ++ ys) ≡ made_in is who xs + made_in is who ys
  both who xs ys = sum_by-append (λ (e : Event). cond ((e.pass == who) && is e.step) 1 0) xs ys

  none_of_others : (who : ℕ) (events : List Event) → NoneOf who events → made_in is who events ≡ 0
  none_of_others who [] none = refl
  none_of_others who (x ∷ xs) none =
      both who (x ∷ []) xs ∙ (λ i. other_one who x none.0 i + none_of_others who xs none.1 i)

  -- one step more
  pub did_made : {step : Step} {p q : Trace} {r : ℕ} → Did step p q r → made_of is q ≡ made_of is p + one_if (is step)
  did_made {step} {p} {q} d =
      let who : ℕ = p.who in
      (λ i. made_in is (d.same.3 i) (d.seen i))
      ∙ both who (p.seen ++ d.rest) (event_of who step ∷ [])
      ∙ (λ i. both who p.seen d.rest i + own_one who step i)
      ∙ (λ i. (made_of is p + none_of_others who d.rest d.none i) + one_if (is step))
      ∙ ap (λ (n : ℕ). n + one_if (is step)) (plus_none (made_of is p))

  pub same_made : {step : Step} {p q : Trace} {r : ℕ} → Did step p q r → is step ≡ false → made_of is q ≡ made_of is p
  same_made {step} {p} d e = did_made d ∙ ap (λ (b : Bool). made_of is p + one_if b) e ∙ plus_none (made_of is p)
