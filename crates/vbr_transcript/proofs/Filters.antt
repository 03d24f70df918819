-- Filters of lists.
-- They are two in a row, one after a map, one that keeps all, and those of two lists in step.
use Rattle.std.proofs.Common.{◌≡◌, ◌≤◌, Bool, true, false, List, [], ◌∷◌, ◌++◌, length, map, inl, inr, refl, ap, arith}
use Rattle.std.proofs.lemmas.Bool.{cases_Bool}
use Rattle.std.proofs.lemmas.List.Elements.{All-head, All-tail}
use Rattle.std.specs.Prelude.{filter, zip, All}

-- the order of two filters doesn't matter
pub filter_swap : {X : Type 0} (p q : X → Bool) (xs : List X) → filter p (filter q xs) ≡ filter q (filter p xs)
filter_swap p q [] = refl
filter_swap {X} p q (x ∷ xs) = elim (cases_Bool (p x)) [
  | inl first ↦ elim (cases_Bool (q x)) [
    | inl second ↦ rw (first, second, first) (ap (λ (rest : List X). x ∷ rest) (filter_swap p q xs))
    | inr second ↦ rw (first, second) (filter_swap p q xs)
  ]
  | inr first ↦ elim (cases_Bool (q x)) [
    | inl second ↦ rw (first, second, first) (filter_swap p q xs)
    | inr second ↦ rw (first, second) (filter_swap p q xs)
  ]
]

-- a filter after a map
pub filter-map : {X Y : Type 0} (p : Y → Bool) (f : X → Y) (xs : List X) →
    filter p (map f xs) ≡ map f (filter (λ x. p (f x)) xs)
filter-map p f [] = refl
filter-map {X} {Y} p f (x ∷ xs) = elim (cases_Bool (p (f x))) [
  | inl passes ↦ rw passes (ap (λ (rest : List Y). f x ∷ rest) (filter-map p f xs))
  | inr fails ↦ rw fails (filter-map p f xs)
]

-- a filter that each element passes keeps all
pub filter_all : {X : Type 0} (p : X → Bool) (xs : List X) → All (λ x. p x ≡ true) xs → filter p xs ≡ xs
filter_all p [] passes = refl
filter_all {X} p (x ∷ xs) passes =
    rw (All-head (λ x. p x ≡ true) x xs passes)
    (ap (λ (rest : List X). x ∷ rest) (filter_all p xs (All-tail (λ x. p x ≡ true) x xs passes)))

-- a filter that no element passes keeps none
pub filter_none : {X : Type 0} (p : X → Bool) (xs : List X) → All (λ x. p x ≡ false) xs → filter p xs ≡ []
filter_none p [] fails = refl
filter_none p (x ∷ xs) fails =
    rw (All-head (λ x. p x ≡ false) x xs fails) (filter_none p xs (All-tail (λ x. p x ≡ false) x xs fails))

-- pairs are their first parts beside their second parts
pub zip_parts : {X Y : Type 0} (pairs : List (X × Y)) →
    zip (map (λ (pair : X × Y). pair.0) pairs) (map (λ (pair : X × Y). pair.1) pairs) ≡ pairs
zip_parts [] = refl
zip_parts {X} {Y} (pair ∷ pairs) = ap (λ (rest : List (X × Y)). pair ∷ rest) (zip_parts pairs)

-- what is longer than needed beside a list changes nothing
pub zip_longer : {X Y : Type 0} (xs : List X) (ys more : List Y) → length xs ≤ length ys →
    zip xs (ys ++ more) ≡ zip xs ys
zip_longer [] ys more enough = refl
zip_longer (x ∷ xs) [] more enough = absurd (omega arith)
zip_longer {X} {Y} (x ∷ xs) (y ∷ ys) more enough =
    ap (λ (rest : List (X × Y)). (x, y) ∷ rest) (zip_longer xs ys more (omega arith))

-- two pairs of lists in step, end to end
pub zip-append : {X Y : Type 0} (xs more : List X) (ys others : List Y) → length ys ≡ length xs →
    zip (xs ++ more) (ys ++ others) ≡ zip xs ys ++ zip more others
zip-append [] more [] others same = refl
zip-append [] more (y ∷ ys) others same = absurd (omega arith)
zip-append (x ∷ xs) more [] others same = absurd (omega arith)
zip-append {X} {Y} (x ∷ xs) more (y ∷ ys) others same =
    ap (λ (rest : List (X × Y)). (x, y) ∷ rest) (zip-append xs more ys others (omega arith))
