-- Members take their reserves one after the other.
use Rattle.vbr_handles.proofs.Names.{◌≡◌, ℕ, zero, suc, ◌+◌, ◌<◌, ◌≤◌, List, [], ◌∷◌, length, refl, sym, ap, subst}
use Rattle.vbr_handles.proofs.Names.{arith, get_or, AllZip}
use Rattle.std.proofs.Math.ListN.{set}

module _ {A : Type 0} (R : A → A → Type 0) where
  -- of the first so many each is as it has to be, and the others are as they were
  abbrev pub SoFar : ℕ → List A → List A → Type 0
  SoFar zero before after = after ≡ before
  SoFar (suc i) [] after = after ≡ []
  SoFar (suc i) (x ∷ before) [] = ⊥
  SoFar (suc i) (x ∷ before) (y ∷ after) = R x y × SoFar i before after

  first_so : (before : List A) (d y : A) → 0 < length before → R (get_or before 0 d) y → SoFar 1 before (set before 0 y)
  first_so [] d y within is = absurd (omega (arith, within))
  first_so (x ∷ before) d y within is = (is, refl)

  -- one more is
  next_so : (before after : List A) (i : ℕ) (d y : A) → i < length before → SoFar i before after →
      R (get_or after i d) y → SoFar (suc i) before (set after i y)
  next_so before after zero d y within same is =
      subst (λ (xs : List A). R (get_or xs 0 d) y → SoFar 1 before (set xs 0 y)) (sym same)
      (first_so before d y within) is
  next_so [] after (suc i) d y within same is = absurd (omega (arith, within))
  next_so (x ∷ before) [] (suc i) d y within so_far is = absurd so_far
  next_so (x ∷ before) (a ∷ after) (suc i) d y within so_far is =
      (so_far.0, next_so before after i d y (omega (arith, within)) so_far.1 is)

  pub one_more_so : (before after : List A) (i : ℕ) (d y : A) → i < length before → SoFar i before after →
      R (get_or after i d) y → SoFar (i + 1) before (set after i y)
  one_more_so before after i d y within so_far is =
      let next : suc i ≡ i + 1 = omega arith in
      subst (λ (n : ℕ). SoFar n before (set after i y)) next (next_so before after i d y within so_far is)

  none_so : (after : List A) → after ≡ [] → AllZip R [] after
  none_so [] same = tt
  none_so (y ∷ after) same = let long = ap (λ (xs : List A). length xs) same in absurd (omega (arith, long))

  -- and so all are
  pub all_so : (before after : List A) (i : ℕ) → length before ≤ i → SoFar i before after → AllZip R before after
  all_so [] after zero few same = none_so after same
  all_so [] after (suc i) few same = none_so after same
  all_so (x ∷ before) after zero few same = absurd (omega (arith, few))
  all_so (x ∷ before) [] (suc i) few so_far = absurd so_far
  all_so (x ∷ before) (y ∷ after) (suc i) few so_far =
      (so_far.0, all_so before after i (omega (arith, few)) so_far.1)
