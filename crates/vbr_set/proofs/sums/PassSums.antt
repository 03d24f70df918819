-- Sums over all passes.
use Rattle.std.proofs.Common.{◌≡◌, ℕ, zero, suc, ◌+◌, ◌*◌, ◌<◌, ◌≤◌, refl, arith, inl, inr, subst}
use Rattle.std.proofs.lemmas.Bool.{cases_order}
use Rattle.std.proofs.Math.Nat.{mul-suc}
use Rattle.vbr_machine.specs.Whereabouts.{sum_of}

pub sum_same : (passes : ℕ) (f g : ℕ → ℕ) → ((i : ℕ) → f i ≡ g i) → sum_of passes f ≡ sum_of passes g
sum_same zero f g e = refl
sum_same (suc i) f g e = let before = sum_same i f g e in let now = e i in omega arith

pub sum_at_most : (passes most : ℕ) (f : ℕ → ℕ) → ((i : ℕ) → i < passes → f i ≤ most) → sum_of passes f ≤ most * passes
sum_at_most zero most f h = omega arith
sum_at_most (suc i) most f h =
    let before = sum_at_most i most f (λ j l. h j (omega arith)) in
    let now = h i (omega arith) in
    let product = mul-suc most i in
    omega arith

pub sum_no_more : (passes : ℕ) (f g : ℕ → ℕ) → ((i : ℕ) → i < passes → f i ≤ g i) → sum_of passes f ≤ sum_of passes g
sum_no_more zero f g h = omega arith
sum_no_more (suc i) f g h =
    let before = sum_no_more i f g (λ j l. h j (omega (arith, l))) in
    let now = h i (omega arith) in
    omega (arith, before, now)

pub sum_both : (passes : ℕ) (f g : ℕ → ℕ) → sum_of passes (λ i. f i + g i) ≡ sum_of passes f + sum_of passes g
sum_both zero f g = refl
sum_both (suc i) f g = let before = sum_both i f g in omega (arith, before)

-- the number of one pass is no more than the sum
pub one_in_sum : (passes who : ℕ) (f : ℕ → ℕ) → who < passes → f who ≤ sum_of passes f
one_in_sum zero who f low = omega (arith, low)
one_in_sum (suc i) who f low = elim (cases_order i who) [
  | inl e ↦ subst (λ (k : ℕ). f k ≤ sum_of i f + f i) e (omega arith)
  | inr (inl l) ↦ omega (arith, low, l)
  | inr (inr l) ↦ let before = one_in_sum i who f l in omega (arith, before)
]
