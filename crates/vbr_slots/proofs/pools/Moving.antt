-- A list without what has left in front.
use Rattle.std.proofs.Common.{◌≡◌, ℕ, zero, suc, ◌+◌, ◌≤◌, List, [], ◌∷◌, length, drop, refl, ap, arith}
use Rattle.std.specs.List.{remove}

-- where one more leaves in front, the first of the rest is gone
pub first_left : (n : ℕ) (xs : List ℕ) → drop (suc n) xs ≡ remove (drop n xs) 0
first_left zero xs = refl
first_left (suc n) [] = refl
first_left (suc n) (x ∷ xs) = first_left n xs

-- what is gone from the whole list behind those is gone from the rest
pub later_left : (n index place : ℕ) (xs : List ℕ) → place ≡ n + index → n ≤ length xs →
    drop n (remove xs place) ≡ remove (drop n xs) index
later_left zero index place xs is low = let same : place ≡ index = omega (arith, is) in ap (remove xs) same
later_left (suc n) index place [] is low = absurd (omega (arith, low))
later_left (suc n) index zero (x ∷ xs) is low = absurd (omega (arith, is))
later_left (suc n) index (suc place) (x ∷ xs) is low = later_left n index place xs (omega (arith, is))
    (omega (arith, low))
