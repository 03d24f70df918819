-- A flag word has just the flags of the slots that are set.
-- What sets or clears one flag, and which flag comes next.
use Rattle.std.proofs.Common.{◌≡◌, ◌≢◌, ℕ, zero, suc, ◌+◌, ◌-◌, ◌*◌, ◌/◌, ◌%◌, ◌^◌, ◌<◌, ◌≤◌, ◌==◌, nat_lt, min, max}
use Rattle.std.proofs.Common.{Bool, true, false, refl, sym, ap, ◌∙◌, inl, inr, ⊎_elim, arith}
use Rattle.std.specs.Prelude.{bit_and, bit_or}
use Rattle.std.specs.Int.{bit_at, trailing_zeros, w64}
use Rattle.std.specs.Int.Bits.{and_lt}
use Rattle.std.specs.Int.Count.{trailing_of_zero}
use Rattle.std.proofs.Math.Nat.{pow-suc}
use Rattle.std.proofs.lemmas.Bool.{cases_lt, cases_eq}
use Rattle.std.proofs.lemmas.Bool.Decides.{nat_tests}
use Rattle.std.proofs.lemmas.Nat.{pow_below, or_lt}
use Rattle.std.proofs.lemmas.Nat.Bits.{bit_at-lt, bit_at-zero, bit_at_and, bit_at_or, bit_at_not, bit_at-pow_same}
use Rattle.std.proofs.lemmas.Nat.Bits.{bit_at-pow_other, bit_at_cat_low, bit_at_cat_high, bit_at_ones}
use Rattle.std.proofs.lemmas.Nat.Bits.{bit_at_ones_above, bit_at-trailing_zeros, same_from_bits_below, shr_and_one}
use Rattle.vbr_words.specs.Flags.{word_of_flag, flag_of, all_but, has_flag, digit, first_bits, flag_word, IsNextFlag}

-- ---- a number by its first bits

digit-lt : (b : Bool) → digit b < 2
digit-lt true = omega arith
digit-lt false = omega arith

digit_is_one : (b : Bool) → (digit b == 1) ≡ b
digit_is_one true = refl
digit_is_one false = refl

bit_of_digit : (b : Bool) → bit_at (digit b) 0 ≡ digit b
bit_of_digit true = refl
bit_of_digit false = refl

room : (n d rest : ℕ) → d < 2 → rest < 2 ^ n → rest + d * 2 ^ n < 2 ^ suc n
room n d rest small low = rw (pow-suc 2 n) (go d small)
  where
    go : (d : ℕ) → d < 2 → rest + d * 2 ^ n < 2 ^ n * 2
    go zero s = omega arith
    go (suc zero) s = omega arith
    go (suc (suc d)) s = absurd (omega arith)

pub first_bits-lt : (bit : ℕ → Bool) (n : ℕ) → first_bits bit n < 2 ^ n
unfolding first_bits
first_bits-lt bit zero = omega arith
first_bits-lt bit (suc n) = room n (digit (bit n)) (first_bits bit n) (digit-lt (bit n)) (first_bits-lt bit n)

swapped : (a b : ℕ) → a + b ≡ b + a
swapped a b = omega arith

pub bit_at-first_bits : (bit : ℕ → Bool) (n i : ℕ) → i < n → bit_at (first_bits bit n) i ≡ digit (bit i)
unfolding first_bits
bit_at-first_bits bit zero i low = absurd (omega arith)
bit_at-first_bits bit (suc n) i low =
    ap (λ (x : ℕ). bit_at x i) (swapped (first_bits bit n) (digit (bit n) * 2 ^ n))
    ∙ ⊎_elim
    (λ (less : i < n). bit_at_cat_low (digit (bit n)) n (first_bits bit n) i less ∙ bit_at-first_bits bit n i less)
    (λ (more : n ≤ i).
    let here : i ≡ n = omega arith in
    let none : i - n ≡ 0 = omega arith in
    bit_at_cat_high (digit (bit n)) n (first_bits bit n) i (first_bits-lt bit n) more ∙ ap (bit_at (digit (bit n))) none
    ∙ bit_of_digit (bit n) ∙ ap (λ (j : ℕ). digit (bit j)) (sym here))
    (cases_lt i n)

-- ---- a flag and its word

in_word : (number i : ℕ) → i < 64 → (64 * number + i) / 64 ≡ number
in_word number i low = omega arith

again : (s : ℕ) → 64 * (s / 64) + s % 64 ≡ s
again s = omega arith

low_bit : (s : ℕ) → s % 64 < 64
low_bit s = omega arith

pub flag_word-lt : (is_set : ℕ → Bool) (number : ℕ) → flag_word is_set number < 2 ^ 64
unfolding flag_word
flag_word-lt is_set number = first_bits-lt (λ i. is_set (64 * number + i)) 64

-- the bits of a flag word
bit_at-flag_word : (is_set : ℕ → Bool) (number i : ℕ) → i < 64 →
    bit_at (flag_word is_set number) i ≡ digit (is_set (64 * number + i))
unfolding flag_word
bit_at-flag_word is_set number i low = bit_at-first_bits (λ j. is_set (64 * number + j)) 64 i low

-- a flag word has just the flags that are set
pub has_flag-flag_word : (is_set : ℕ → Bool) (s : ℕ) → has_flag (flag_word is_set (word_of_flag s)) s ≡ is_set s
unfolding has_flag
has_flag-flag_word is_set s =
    ap (λ (d : ℕ). d == 1) (bit_at-flag_word is_set (s / 64) (s % 64) (low_bit s))
    ∙ digit_is_one (is_set (64 * (s / 64) + s % 64)) ∙ ap is_set (again s)

-- a word with no flag
pub has_flag-zero : (s : ℕ) → has_flag 0 s ≡ false
unfolding has_flag
has_flag-zero s = ap (λ (d : ℕ). d == 1) (bit_at-zero (s % 64))

-- a word is known by its flags
by_flags : (is_set : ℕ → Bool) (number word : ℕ) → word < 2 ^ 64 →
    ((i : ℕ) → i < 64 → bit_at word i ≡ digit (is_set (64 * number + i))) → flag_word is_set number ≡ word
by_flags is_set number word low same =
    same_from_bits_below 64 (flag_word is_set number) word (flag_word-lt is_set number) low
    (λ i less. bit_at-flag_word is_set number i less ∙ sym (same i less))

-- where the same flags are set, the words are the same
pub flag_word_same : (a b : ℕ → Bool) (number : ℕ) → ((s : ℕ) → word_of_flag s ≡ number → a s ≡ b s) →
    flag_word a number ≡ flag_word b number
flag_word_same a b number same =
    by_flags a number (flag_word b number) (flag_word-lt b number)
    (λ i less. bit_at-flag_word b number i less ∙ ap digit (sym (same (64 * number + i) (in_word number i less))))

-- ---- one flag

or_with_one : (d : ℕ) → d < 2 → max d 1 ≡ 1
or_with_one d small = omega arith

or_with_zero : (d : ℕ) → max d 0 ≡ d
or_with_zero d = omega arith

and_with_one : (d : ℕ) → d < 2 → min d (1 - 0) ≡ d
and_with_one d small = omega arith

and_with_zero : (d : ℕ) → min d (1 - 1) ≡ 0
and_with_zero d = omega arith

module _ (before after : ℕ → Bool) (s : ℕ) (others : (t : ℕ) → t ≢ s → after t ≡ before t) where
  abbrev old : ℕ
  old = flag_word before (word_of_flag s)

  -- another bit of the word is that of another slot
  other_bit : (i : ℕ) → i < 64 → i ≢ s % 64 → after (64 * (s / 64) + i) ≡ before (64 * (s / 64) + i)
  other_bit i low ne = others (64 * (s / 64) + i) (λ e. ne (omega (arith, ap (λ (t : ℕ). t % 64) e)))

  -- its own bit is its own
  own_bit : (i : ℕ) → i ≡ s % 64 → after (64 * (s / 64) + i) ≡ after s
  own_bit i is = ap after (ap (λ (j : ℕ). 64 * (s / 64) + j) is ∙ again s)

  -- setting it
  pub flag_raised : after s ≡ true → flag_word after (word_of_flag s) ≡ bit_or old (flag_of s)
  flag_raised set =
      by_flags after (s / 64) (bit_or old (2 ^ (s % 64)))
      (or_lt 64 old (2 ^ (s % 64)) (flag_word-lt before (s / 64)) (pow_below (s % 64) 64 (low_bit s))) each
    where
      each : (i : ℕ) → i < 64 → bit_at (bit_or old (2 ^ (s % 64))) i ≡ digit (after (64 * (s / 64) + i))
      each i low =
          bit_at_or old (2 ^ (s % 64)) i
          ∙ ⊎_elim
          (λ (here : i ≡ s % 64).
          ap (λ (d : ℕ). max (bit_at old i) d) (ap (bit_at (2 ^ (s % 64))) here ∙ bit_at-pow_same (s % 64))
          ∙ or_with_one (bit_at old i) (bit_at-lt old i) ∙ sym (ap digit (own_bit i here ∙ set)))
          (λ (ne : i ≢ s % 64).
          ap (λ (d : ℕ). max (bit_at old i) d) (bit_at-pow_other (s % 64) i ne) ∙ or_with_zero (bit_at old i)
          ∙ bit_at-flag_word before (s / 64) i low ∙ ap digit (sym (other_bit i low ne)))
          (cases_eq i (s % 64))

  -- clearing it
  pub flag_taken : after s ≡ false → flag_word after (word_of_flag s) ≡ bit_and old (all_but s)
  flag_taken cleared =
      by_flags after (s / 64) (bit_and old (2 ^ 64 - 1 - 2 ^ (s % 64)))
      (and_lt 64 old (2 ^ 64 - 1 - 2 ^ (s % 64)) (flag_word-lt before (s / 64)) (omega arith)) each
    where
      each : (i : ℕ) → i < 64 → bit_at (bit_and old (2 ^ 64 - 1 - 2 ^ (s % 64))) i ≡ digit (after (64 * (s / 64) + i))
      each i low =
          bit_at_and old (2 ^ 64 - 1 - 2 ^ (s % 64)) i
          ∙ ap (min (bit_at old i)) (bit_at_not w64 (2 ^ (s % 64)) i (pow_below (s % 64) 64 (low_bit s)) low)
          ∙ ⊎_elim
          (λ (here : i ≡ s % 64).
          ap (λ (d : ℕ). min (bit_at old i) (1 - d)) (ap (bit_at (2 ^ (s % 64))) here ∙ bit_at-pow_same (s % 64))
          ∙ and_with_zero (bit_at old i) ∙ sym (ap digit (own_bit i here ∙ cleared)))
          (λ (ne : i ≢ s % 64).
          ap (λ (d : ℕ). min (bit_at old i) (1 - d)) (bit_at-pow_other (s % 64) i ne)
          ∙ and_with_one (bit_at old i) (bit_at-lt old i) ∙ bit_at-flag_word before (s / 64) i low
          ∙ ap digit (sym (other_bit i low ne)))
          (cases_eq i (s % 64))

-- ---- all flags

-- the first slots that have flags in a word
below : (slots number i : ℕ) → nat_lt (64 * number + i) slots ≡ nat_lt i (slots - 64 * number)
below slots number i = grind (arith, nat_tests)

digit_of_test : (a b : ℕ) → a < b → digit (nat_lt a b) ≡ 1
digit_of_test a b less = go (nat_lt a b) (grind (arith, nat_tests))
  where
    go : (t : Bool) → t ≡ true → digit t ≡ 1
    go true e = refl
    go false e = absurd (cc)

digit_of_no : (a b : ℕ) → b ≤ a → digit (nat_lt a b) ≡ 0
digit_of_no a b more = go (nat_lt a b) (grind (arith, nat_tests))
  where
    go : (t : Bool) → t ≡ false → digit t ≡ 0
    go false e = refl
    go true e = absurd (cc)

-- a word all of whose slots are there
pub full_word : (slots number : ℕ) → 64 ≤ slots - 64 * number → flag_word (λ s. nat_lt s slots) number ≡ 2 ^ 64 - 1
full_word slots number all =
    by_flags (λ s. nat_lt s slots) number (2 ^ 64 - 1) (omega arith)
    (λ i low. bit_at_ones 64 i low
    ∙ sym (ap digit (below slots number i) ∙ digit_of_test i (slots - 64 * number) (omega arith)))

-- and the last, where there are fewer
pub last_word : (slots number : ℕ) → slots - 64 * number < 64 →
    flag_word (λ s. nat_lt s slots) number ≡ 2 ^ (slots - 64 * number) - 1
last_word slots number few =
    by_flags (λ s. nat_lt s slots) number (2 ^ (slots - 64 * number) - 1)
    (let small = pow_below (slots - 64 * number) 64 few in omega arith) (λ i low.
    ⊎_elim
    (λ (there : i < slots - 64 * number).
    bit_at_ones (slots - 64 * number) i there ∙ sym (digit_of_test i (slots - 64 * number) there))
    (λ (past : slots - 64 * number ≤ i).
    bit_at_ones_above (slots - 64 * number) i past ∙ sym (digit_of_no i (slots - 64 * number) past))
    (cases_lt i (slots - 64 * number))
    ∙ sym (ap digit (below slots number i)))

-- ---- the next flag

-- the test of a shifted word
pub flag_tested : (word slot : ℕ) → (bit_and (word / 2 ^ (slot % 64)) 1 == 1) ≡ has_flag word slot
unfolding has_flag
flag_tested word slot = ap (λ (d : ℕ). d == 1) (shr_and_one word (slot % 64))

not_one : (d : ℕ) → d ≡ 0 → (d == 1) ≡ false
not_one d e = rw e refl

no_flag : (word s : ℕ) → bit_at word (s % 64) ≡ 0 → has_flag word s ≡ false
unfolding has_flag
no_flag word s none = not_one (bit_at word (s % 64)) none

one_flag : (word s : ℕ) → bit_at word (s % 64) ≡ 1 → has_flag word s ≡ true
unfolding has_flag
one_flag word s one = ap (λ (d : ℕ). d == 1) one

-- where a word has flags, the lowest is the next; where it has none, the next slot is in the next word
pub next_is : (word slot zeros : ℕ) → word < 2 ^ 64 → zeros ≡ trailing_zeros w64 word →
    IsNextFlag word slot (slot / 64 * 64 + zeros)
next_is word slot zeros low is = ⊎_elim some none (cases_lt 0 word)
  where
    some : 0 < word → IsNextFlag word slot (slot / 64 * 64 + zeros)
    some more =
        let lowest = bit_at-trailing_zeros w64 word more low in
        let small : zeros < 64 = omega (arith, is, lowest.0) in
        let bit : (slot / 64 * 64 + zeros) % 64 ≡ zeros = omega arith in
        record {
          before = λ s same less. no_flag word s (lowest.2 (s % 64) (omega (arith, is, same, less)));
          place = inl (
            omega (arith, small),
            one_flag word (slot / 64 * 64 + zeros) (ap (bit_at word) (bit ∙ is) ∙ lowest.1),
          );
        }

    none : word ≤ 0 → IsNextFlag word slot (slot / 64 * 64 + zeros)
    none nothing =
        let empty : word ≡ 0 = omega arith in
        let past : zeros ≡ 64 = is ∙ ap (trailing_zeros w64) empty ∙ trailing_of_zero 64 in
        record {
          before = λ s same less. ap (λ (w : ℕ). has_flag w s) empty ∙ has_flag-zero s;
          place = inr (empty, omega (arith, past));
        }
