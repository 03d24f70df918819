-- Lists as total functions, and what holds of each element of a list.
use Rattle.std.proofs.Common.{◌≡◌, ◌≢◌, ℕ, zero, suc, ◌<◌, ◌≤◌, List, [], ◌∷◌, length, get_or, set, replicate, ◌⊎◌, inl}
use Rattle.std.proofs.Common.{inr, refl, sym, ap, ◌∙◌, arith}
use Rattle.std.proofs.lemmas.Bool.{cases_eq, cases_lt, eq-eqb, ne_eqb}
use Rattle.std.proofs.lemmas.List.{get_or-set_same, get_or-set_other, get_or_past, get_or-replicate, length-replicate}
use Rattle.std.specs.List.{AllByRecursion}
use Rattle.vbr_machine.specs.Put.{put}

-- the value that was put
put_same : {A : Type 0} (f : ℕ → A) (i j : ℕ) (x : A) → j ≡ i → put f i x j ≡ x
put_same f i j x e = rw (eq-eqb j i e) refl

-- any other value
put_other : {A : Type 0} (f : ℕ → A) (i j : ℕ) (x : A) → j ≢ i → put f i x j ≡ f j
put_other f i j x ne = rw (ne_eqb j i ne) refl

-- putting the value that is there changes nothing
pub put_here : {A : Type 0} (f : ℕ → A) (i : ℕ) (x : A) → x ≡ f i → put f i x ≡ f
put_here {A} f i x e = λ k j. by_case j (cases_eq j i) k
  where
    by_case : (j : ℕ) → (j ≡ i) ⊎ (j ≢ i) → put f i x j ≡ f j
    by_case j (inl same) = put_same f i j x same ∙ e ∙ ap f (sym same)
    by_case j (inr ne) = put_other f i j x ne

-- a write to a list is a write to the function that reads it
pub read_set : {A B : Type 0} (f : A → B) (xs : List A) (i : ℕ) (x d : A) (y : B) → i < length xs → f x ≡ y →
    ◌≡◌ {A = ℕ → B} (λ s. f (get_or (set xs i x) s d)) (put (λ s. f (get_or xs s d)) i y)
read_set {A} {B} f xs i x d y lt e = λ k s. by_case s (cases_eq s i) k
  where
    by_case : (s : ℕ) → (s ≡ i) ⊎ (s ≢ i) → f (get_or (set xs i x) s d) ≡ put (λ s. f (get_or xs s d)) i y s
    by_case s (inl same) = rw (same, get_or-set_same xs i x d lt)
        (e ∙ sym (put_same (λ s. f (get_or xs s d)) i i y refl))
    by_case s (inr ne) = rw (get_or-set_other xs i s x d ne) (sym (put_other (λ s. f (get_or xs s d)) i s y ne))

-- a list of one value is one value everywhere, where the value past its end is the same
pub read_replicate : {A B : Type 0} (f : A → B) (n : ℕ) (x d : A) (y : B) → f x ≡ y → f d ≡ y →
    ◌≡◌ {A = ℕ → B} (λ s. f (get_or (replicate n x) s d)) (λ s. y)
read_replicate {A} {B} f n x d y e past = λ k s. by_case s (cases_lt s n) k
  where
    by_case : (s : ℕ) → (s < n) ⊎ (n ≤ s) → f (get_or (replicate n x) s d) ≡ y
    by_case s (inl lt) = rw (get_or-replicate n s x d lt) e
    by_case s (inr ge) = rw (get_or_past (replicate n x) s d (omega (arith, length-replicate n x))) past

-- what holds of each element holds of the one at an index
pub all_at : {A : Type 0} (P : A → Type 0) (xs : List A) (i : ℕ) (d : A) → AllByRecursion P xs → i < length xs →
    P (get_or xs i d)
all_at P [] i d all lt = absurd (omega arith)
all_at P (x ∷ xs) zero d all lt = all.0
all_at P (x ∷ xs) (suc i) d all lt = all_at P xs i d all.1 (omega arith)
