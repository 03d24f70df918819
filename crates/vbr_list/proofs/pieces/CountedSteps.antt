-- A pass that has made no more steps of a kind made none of them between two moments since.
use Rattle.vbr_list.proofs.Names.{◌≡◌, ℕ, ◌+◌, Bool, true, cond, List, [], ◌∷◌, ◌++◌, ap, arith, eq-eqb, ◌==◌, ◌&&◌}
use Rattle.vbr_list.proofs.Names.{AllByRecursion, count_by, sum_by-append, Begins, Event, IsSame, made_of, Step}
use Rattle.vbr_list.proofs.Names.{Trace}

-- by these events the pass makes no step of a kind
abbrev pub MakesNone : (Step → Type 0) → ℕ → List Event → Type 0
MakesNone Is who events = AllByRecursion (λ (event : Event). event.pass ≡ who → Is event.step → ⊥) events

module _ (is : Step → Bool) (Is : Step → Type 0) (tells : (step : Step) → Is step → is step ≡ true) where
  counted : ℕ → List Event → ℕ
  counted who events = count_by (λ (e : Event). (e.pass == who) && is e.step) events

  counted-append : (who : ℕ) (xs ys : List Event) → counted who (xs ++ ys) ≡ counted who xs + counted who ys
  unfolding counted
  counted-append who xs ys = sum_by-append (λ (e : Event). cond ((e.pass == who) && is e.step) 1 0) xs ys

  none_counted : (who : ℕ) (events : List Event) → counted who events ≡ 0 → MakesNone Is who events
  unfolding counted
  none_counted who [] none = tt
  none_counted who (event ∷ events) none =
      let sum = counted-append who (event ∷ []) events in (
        λ mine kind.
            one (event.pass == who) (is event.step) (eq-eqb event.pass who mine) (tells event.step kind)
            (omega (arith, none, sum)),
        none_counted who events (omega (arith, none, sum)),
      )
    where
      one : (p q : Bool) → p ≡ true → q ≡ true → 0 + cond (p && q) 1 0 ≡ 0 → ⊥
      one p q a b z = grind arith

  pub none_between : (p q : Trace) → IsSame p q → made_of is q ≡ made_of is p → {first last : List Event} →
      Begins p.seen first → (b : Begins first last) → Begins last q.seen → MakesNone Is p.who b.0
  unfolding counted
  none_between p q s same {first} {last} a b c =
      let one = counted-append p.who p.seen a.0 in
      let two = counted-append p.who first b.0 in
      let three = counted-append p.who last c.0 in
      let there = ap (counted p.who) a.1 in
      let mid = ap (counted p.who) b.1 in
      let end = ap (counted p.who) c.1 in
      let who : counted q.who q.seen ≡ counted p.who q.seen = ap (λ w. counted w q.seen) s.who in
      let kept : counted q.who q.seen ≡ counted p.who p.seen = same in
      none_counted p.who b.0 (omega (arith, one, two, three, there, mid, end, who, kept))
