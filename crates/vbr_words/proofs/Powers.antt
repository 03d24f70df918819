-- Powers of two by their one binary digit: a remainder is a mask.
use Rattle.std.proofs.Common.{◌≡◌, ℕ, zero, suc, ◌-◌, ◌/◌, ◌%◌, ◌^◌, ◌≤◌, refl, sym, ap, ◌∙◌}
use Rattle.std.proofs.Common.{inl, inr, arith}
use Rattle.std.specs.Prelude.{bit_and, count_ones}
use Rattle.std.proofs.Math.Nat.{pow-suc}
use Rattle.std.proofs.lemmas.Nat.{and_mask}
use Rattle.std.proofs.lemmas.Bool.{cases_lt}
use Rattle.std.specs.Int.Count.{ones, ones_step}

count_ones-zero : count_ones 0 ≡ 0
unfolding ones
count_ones-zero = refl

no_digit : (d n : ℕ) → n ≤ d → count_ones n ≡ 0 → n ≡ 0
no_digit zero n le none = omega arith
no_digit (suc d) n le none =
    let step = ones_step n in
    let half : n / 2 ≡ 0 = no_digit d (n / 2) (omega arith) (omega (arith, step)) in
    omega (arith, step)

one_digit : (d n : ℕ) → n ≤ d → count_ones n ≡ 1 → (k : ℕ) × (n ≡ 2 ^ k)
one_digit zero n le one =
    let none : n ≡ 0 = omega arith in
    let no : 0 ≡ 1 = sym count_ones-zero ∙ ap count_ones (sym none) ∙ one in
    absurd (omega (arith, no))
one_digit (suc d) n le one = elim (cases_lt (n % 2) 1) [
  | inl even ↦
      let step = ones_step n in
      let rest : count_ones (n / 2) ≡ 1 = omega (arith, step) in
      let half = one_digit d (n / 2) (omega arith) rest in
      (suc half.0, rw (pow-suc 2 half.0, ← half.1) (omega arith))
  | inr odd ↦
      let step = ones_step n in
      let half : n / 2 ≡ 0 = no_digit (suc d) (n / 2) (omega arith) (omega (arith, step)) in
      (0, omega (arith, half))
]

-- the remainder by a number with one digit is a mask
pub mask_is : (key buckets : ℕ) → count_ones buckets ≡ 1 → bit_and key (buckets - 1) ≡ key % buckets
mask_is key buckets one =
    let power = one_digit buckets buckets (omega arith) one in
    rw power.1 (and_mask key power.0)
