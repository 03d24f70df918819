-- A pass that advances the epoch where it has to has done so in need, from view to view.
use Rattle.std.proofs.Common.{◌≡◌, ℕ, ◌+◌, ◌≤◌, ◌==◌, ◌&&◌, Bool, true, cond, List, [], ◌∷◌, ◌++◌, refl, sym}
use Rattle.std.proofs.Common.{ap, ◌∙◌, subst, append_assoc, eq-eqb, inl, inr, arith}
use Rattle.std.specs.Prelude.{count_by}
use Rattle.std.proofs.lemmas.List.{append_cancel_left}
use Rattle.std.proofs.lemmas.List.Sums.{sum_by-append}
use Rattle.vbr_machine.specs.Start.{Start}
use Rattle.vbr_machine.specs.Needs.{AdvancesInNeed, NeedsAdvance}
use Rattle.vbr_machine.specs.Runs.{Begins, know_after}
use Rattle.vbr_machine.specs.declared.event.Event.{Event}
use Rattle.vbr_machine.specs.declared.event.Step.TheVariants.{Advance}
use Rattle.vbr_machine.proofs.Lemmas.{IsIn, in_either}
use Rattle.vbr_slots.specs.steps.Calls.{IsSame}
use Rattle.vbr_slots.specs.views.Views.{PassView, event_of}
use Rattle.vbr_at_table.specs.costs.Advances.{AdvancedInNeed, AdvancesOnce, AdvancesWhereNeeded}
use Rattle.vbr_at_table.specs.costs.StepKinds.{advances, is_advance}

-- ---- the place of one event

first_same : (x y : Event) (xs ys : List Event) → x ∷ xs ≡ y ∷ ys → x ≡ y
first_same x y xs ys e = cc

rest_same : (x y : Event) (xs ys : List Event) → x ∷ xs ≡ y ∷ ys → xs ≡ ys
rest_same x y xs ys e = cc

module _ (test : Event → Bool) where
  abbrev number : List Event → ℕ
  number events = count_by test events

  number_both : (xs ys : List Event) → number (xs ++ ys) ≡ number xs + number ys
  number_both xs ys = sum_by-append (λ (e : Event). cond (test e) 1 0) xs ys

  number_one : (x : Event) → test x ≡ true → number (x ∷ []) ≡ 1
  number_one x t = ap (λ (b : Bool). 0 + cond b 1 0) t

  has_one : (m after : List Event) (x : Event) → test x ≡ true → 1 ≤ number (m ++ x ∷ after)
  has_one m after x t =
      let both = number_both m (x ∷ after) in
      let here = number_both (x ∷ []) after in
      let one = number_one x t in
      omega (arith, both, here, one)

  -- one that is there twice is counted twice
  has_two : (x : Event) (events m after : List Event) (y : Event) → test x ≡ true → test y ≡ true →
      events ≡ m ++ y ∷ after → number (x ∷ events) ≤ 1 → ⊥
  has_two x events m after y t u e low =
      let here = number_both (x ∷ []) events in
      let one = number_one x t in
      let more = has_one m after y u in
      let same = ap number e in
      omega (arith, here, one, more, same, low)

  -- where just one passes the test, it stands at one place
  one_place : (m after k tail : List Event) (x y : Event) → m ++ x ∷ after ≡ k ++ y ∷ tail → test x ≡ true →
      test y ≡ true → number (m ++ x ∷ after) ≤ 1 → (m ≡ k) × (x ≡ y)
  one_place [] after [] tail x y e t u low = (refl, first_same x y after tail e)
  one_place [] after (z ∷ k) tail x y e t u low =
      absurd (has_two x after k tail y t u (rest_same x z after (k ++ y ∷ tail) e) low)
  one_place (z ∷ m) after [] tail x y e t u low =
      let first = first_same z y (m ++ x ∷ after) tail e in
      absurd (has_two z (m ++ x ∷ after) m after x (ap test first ∙ u) t refl low)
  one_place (z ∷ m) after (w ∷ k) tail x y e t u low =
      let first = first_same z w (m ++ x ∷ after) (k ++ y ∷ tail) e in
      let rest = rest_same z w (m ++ x ∷ after) (k ++ y ∷ tail) e in
      let sum = number_both (z ∷ []) (m ++ x ∷ after) in
      let there = one_place m after k tail x y rest t u (omega (arith, sum, low)) in
      (λ i. first i ∷ there.0 i, there.1)

-- ---- steps that would advance the epoch

abbrev is_of : ℕ → Event → Bool
is_of who e = (e.pass == who) && is_advance e.step

own_is : (who from : ℕ) → is_of who (event_of who (Advance from)) ≡ true
own_is who from = ap (λ (b : Bool). b && true) (eq-eqb who who refl)

same_from : (who from epoch : ℕ) → event_of who (Advance from) ≡ event_of who (Advance epoch) → from ≡ epoch
same_from who from epoch e = same (ap (λ (x : Event). x.step) e)
  where
    same : Advance from ≡ Advance epoch → from ≡ epoch
    same x = cc

module _ (p q : PassView) (same : IsSame p.trace q.trace) (seen : Begins p.trace.seen q.trace.seen) where
  abbrev who : ℕ
  who = p.trace.who

  abbrev rest : List Event
  rest = seen.0

  numbers : advances q.trace ≡ advances p.trace + number (is_of who) rest
  numbers = (λ i. count_by (is_of (same.who i)) (seen.1 i)) ∙ number_both (is_of who) p.trace.seen rest

  -- one that the pass made since, at the moment of the one that it says of
  at_the_moment : (once : AdvancesOnce p q) (m after : List Event) (from : ℕ) →
      rest ≡ m ++ event_of who (Advance from) ∷ after →
      NeedsAdvance (know_after p.trace.start (p.trace.seen ++ m) who) from
  at_the_moment once m after from e =
      subst (λ (x : List Event × ℕ). NeedsAdvance (know_after p.trace.start x.0 who) x.1)
      (λ i. (stands i, sym from_is i)) once.needed
    where
      k : List Event
      k = once.is.from.0

      there : rest ≡ k ++ event_of who (Advance once.epoch) ∷ once.advance.0
      there = append_cancel_left p.trace.seen rest (k ++ event_of who (Advance once.epoch) ∷ once.advance.0)
          (sym seen.1 ∙ once.advance.1
          ∙ append_assoc once.moment (event_of who (Advance once.epoch) ∷ []) once.advance.0
          ∙ ap (λ (l : List Event). l ++ event_of who (Advance once.epoch) ∷ once.advance.0) once.is.from.1
          ∙ append_assoc p.trace.seen k (event_of who (Advance once.epoch) ∷ once.advance.0))

      low : number (is_of who) (m ++ event_of who (Advance from) ∷ after) ≤ 1
      low =
          let count = once.count in
          let all = numbers in
          let is = ap (number (is_of who)) e in
          omega (arith, count, all, is)

      place : (m ≡ k) × (event_of who (Advance from) ≡ event_of who (Advance once.epoch))
      place = one_place (is_of who) m after k once.advance.0 (event_of who (Advance from))
          (event_of who (Advance once.epoch)) (sym e ∙ there) (own_is who from) (own_is who once.epoch) low

      from_is : from ≡ once.epoch
      from_is = same_from who from once.epoch place.1

      stands : once.moment ≡ p.trace.seen ++ m
      stands = once.is.from.1 ∙ ap (λ (l : List Event). p.trace.seen ++ l) (sym place.0)

  since : AdvancesWhereNeeded p q → (m after : List Event) (from : ℕ) →
      rest ≡ m ++ event_of who (Advance from) ∷ after →
      NeedsAdvance (know_after p.trace.start (p.trace.seen ++ m) who) from
  since (inl none) m after from e =
      let all = numbers in
      let is = ap (number (is_of who)) e in
      let one = has_one (is_of who) m after (event_of who (Advance from)) (own_is who from) in
      absurd (omega (arith, none, all, is, one))
  since (inr once) m after from e = at_the_moment once m after from e

  -- a law: a pass that had advanced the epoch in need has done so since, where it advanced it as it had to
  pub stays_in_need : AdvancesWhereNeeded p q → AdvancedInNeed p.trace → AdvancedInNeed q.trace
  stays_in_need needed before =
      subst (λ (x : Start × ℕ). AdvancesInNeed x.0 [] q.trace.seen x.1)
      (λ i. (sym same.start i, sym same.who i)) there
    where
      there : AdvancesInNeed p.trace.start [] q.trace.seen who
      there first after from e =
          go (in_either p.trace.seen rest first after (event_of who (Advance from)) (sym seen.1 ∙ e))
        where
          go : IsIn p.trace.seen rest first after (event_of who (Advance from)) →
              NeedsAdvance (know_after p.trace.start first who) from
          go (inl l) = before first l.0 from l.1
          go (inr r) =
              subst (λ (l : List Event). NeedsAdvance (know_after p.trace.start l who) from) (sym r.1)
              (since needed r.0 after from r.2)
