-- The number of an opening after so many more, as long as it hasn't come round.
use Rattle.vbr_handles.proofs.Names.{◌≡◌, ◌≢◌, ℕ, zero, suc, ◌+◌, ◌-◌, ◌^◌, ◌<◌, ◌≤◌, arith, ◌⊎◌, inl, inr, refl, ap}
use Rattle.vbr_handles.proofs.Names.{Bool, true, false, nat_lt, if◌then◌else◌}
use Rattle.std.proofs.lemmas.Bool.Decides.{nat_tests}
use Rattle.vbr_handles.specs.Openings.{OpeningsDiffer, after_openings, next_opening}

-- what the next number is: one more, or 1 after the greatest
abbrev NextIs : ℕ → ℕ → Type 0
NextIs n next = ((n + 1 < 2 ^ 32) × (next ≡ n + 1)) ⊎ ((2 ^ 32 ≤ n + 1) × (next ≡ 1))

next_by : (test : Bool) (n : ℕ) → nat_lt (n + 1) (2 ^ 32) ≡ test → NextIs n (next_opening n)
next_by true n is = inl (grind (arith, nat_tests, is), ap (λ (t : Bool). if t then n + 1 else 1) is)
next_by false n is = inr (grind (arith, nat_tests, is), ap (λ (t : Bool). if t then n + 1 else 1) is)

next_is : (n : ℕ) → NextIs n (next_opening n)
next_is n = next_by (nat_lt (n + 1) (2 ^ 32)) n refl

-- the number after so many more: it hasn't come round, or has once
abbrev ComesTo : ℕ → ℕ → ℕ → Type 0
ComesTo count number at = ((number + count < 2 ^ 32) × (at ≡ number + count))
    ⊎ ((2 ^ 32 ≤ number + count) × (at + 2 ^ 32 ≡ number + count + 1))

one_more : (count number at next : ℕ) → number < 2 ^ 32 → suc count < 2 ^ 32 → NextIs at next →
    ComesTo count number at → ComesTo (suc count) number next
one_more count number at next low few (inl it) (inl so) =
    inl (omega (arith, it.0, it.1, so.1), omega (arith, it.1, so.1))
one_more count number at next low few (inr it) (inl so) =
    inr (omega (arith, it.0, so.1), omega (arith, it.0, it.1, so.0, so.1))
one_more count number at next low few (inl it) (inr so) = inr (omega (arith, so.0), omega (arith, it.1, so.1))
one_more count number at next low few (inr it) (inr so) = absurd (omega (arith, it.0, so.1, low, few))

comes_to : (count number : ℕ) → 0 < number → number < 2 ^ 32 → count < 2 ^ 32 →
    ComesTo count number (after_openings count number)
comes_to zero number some low few = inl (omega (arith, low), omega arith)
comes_to (suc count) number some low few =
    one_more count number (after_openings count number) (next_opening (after_openings count number)) low few
    (next_is (after_openings count number)) (comes_to count number some low (omega (arith, few)))

differs : (count number at : ℕ) → 0 < count → count < 2 ^ 32 - 1 → ComesTo count number at → at ≢ number
differs count number at some few (inl so) same = omega (arith, some, so.1, same)
differs count number at some few (inr so) same = omega (arith, few, so.1, same)

above_0 : (n next : ℕ) → NextIs n next → 0 < next
above_0 n next (inl it) = omega (arith, it.1)
above_0 n next (inr it) = omega (arith, it.1)

never_0 : (count number : ℕ) → 0 < number → 0 < after_openings count number
never_0 zero number some = some
never_0 (suc count) number some =
    above_0 (after_openings count number) (next_opening (after_openings count number))
    (next_is (after_openings count number))

pub openings_differ : OpeningsDiffer
openings_differ = record {
  another = λ count number some low many few.
      differs count number (after_openings count number) many few
      (comes_to count number some low (omega (arith, few)));
  none_is_0 = λ count number some low. never_0 count number some;
}
