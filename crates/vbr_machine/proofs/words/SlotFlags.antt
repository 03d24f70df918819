-- What a flag word tells of a slot of the shape, and what a step on a flag leaves there.
use Rattle.std.proofs.Common.{◌≡◌, ◌≢◌, ℕ, suc, ◌+◌, ◌*◌, ◌%◌, ◌^◌, ◌<◌, ◌≤◌, nat_lt, Bool, true, false, cond, refl}
use Rattle.std.proofs.Common.{sym, ap, ◌∙◌, arith}
use Rattle.std.specs.Prelude.{◌&&◌, bit_and, bit_or}
use Rattle.std.proofs.Math.Nat.{pow-suc}
use Rattle.std.proofs.Math.Pow.{pow_mono}
use Rattle.std.proofs.lemmas.Bool.Decides.{nat_tests}
use Rattle.std.proofs.lemmas.Nat.{one_shl}
use Rattle.vbr_machine.specs.Start.{Start}
use Rattle.vbr_words.specs.Flags.{word_of_flag, flag_words, flag_of, all_but, has_flag, digit, first_bits, flag_word}
use Rattle.vbr_words.specs.declared.place.Place.TheVariants.{Flags}
use Rattle.vbr_words.proofs.Lemmas.{first_bits-lt, flag_raised, flag_taken, flag_word_same, has_flag-flag_word}
use Rattle.vbr_machine.specs.Put.{put}
use Rattle.vbr_machine.specs.Machine.{World, is_shared, is_flagged, word_at, found}
use Rattle.vbr_machine.specs.Making.{taken}
use Rattle.vbr_machine.specs.declared.event.Effect.TheVariants.{Won, Lost}
use Rattle.vbr_machine.specs.declared.event.Step.TheVariants.{TakeFlag}
use Rattle.vbr_machine.specs.declared.knowledge.SlotPlace.{SlotPlace}
use Rattle.vbr_machine.specs.declared.knowledge.SlotPlace.TheVariants.{Shared}
use Rattle.vbr_machine.proofs.words.Puts.{put_here, put_other}

-- the flag of a slot of the shape stands in a flag word
pub flag_in : (start : Start) (s : ℕ) → s < start.shape.slots → word_of_flag s < flag_words start.shape.slots
flag_in start s low = omega arith

-- what is found at a slot's flag is whether it is set
pub flag_found : (start : Start) (w : World) (s : ℕ) → has_flag (found start w (TakeFlag s)) s ≡ is_flagged start w s
flag_found start w s = has_flag-flag_word (is_flagged start w) s

and_true : (b : Bool) → b ≡ true → (c : Bool) → (b && c) ≡ c
and_true b e c = rw e refl

and_second : (b c : Bool) → (b && c) ≡ true → c ≡ true
and_second true c e = e
and_second false c e = absurd (cc)

and_false : (b : Bool) → (b && false) ≡ false
and_false true = refl
and_false false = refl

-- a slot of the shape has its flag exactly where it is shared
pub flag_told : (start : Start) (w : World) (s : ℕ) (place : SlotPlace) → s < start.shape.slots → w.place s ≡ place →
    has_flag (found start w (TakeFlag s)) s ≡ is_shared place
flag_told start w s place low e = flag_found start w s
    ∙ and_true (nat_lt s start.shape.slots) (grind (arith, nat_tests)) (is_shared (w.place s)) ∙ ap is_shared e

pub flag_shared : (start : Start) (w : World) (s : ℕ) → has_flag (found start w (TakeFlag s)) s ≡ true →
    is_shared (w.place s) ≡ true
flag_shared start w s e =
    and_second (nat_lt s start.shape.slots) (is_shared (w.place s)) (sym (flag_found start w s) ∙ e)

-- ---- what a taking tells

-- one that was won found the flag set
pub flag_won : (s r n : ℕ) → taken s r ≡ taken s n → has_flag r s ≡ true → has_flag n s ≡ true
flag_won s r n same set = go (has_flag n s) refl
  where
    go : (b : Bool) → has_flag n s ≡ b → has_flag n s ≡ true
    go true e = e
    go false e =
        let lost : Won ≡ Lost n =
        sym (ap (λ (b : Bool). cond b Won (Lost r)) set) ∙ same ∙ ap (λ (b : Bool). cond b Won (Lost n)) e in
        absurd (cc)

-- and one that was lost tells the word that was found
pub word_told : (s r n : ℕ) → taken s r ≡ taken s n → has_flag r s ≡ false → r ≡ n
word_told s r n same clear = go (has_flag n s) refl
  where
    lost : Lost r ≡ taken s n
    lost = sym (ap (λ (b : Bool). cond b Won (Lost r)) clear) ∙ same

    go : (b : Bool) → has_flag n s ≡ b → r ≡ n
    go true e = let won : Lost r ≡ Won = lost ∙ ap (λ (b : Bool). cond b Won (Lost n)) e in absurd (cc)
    go false e = let told : Lost r ≡ Lost n = lost ∙ ap (λ (b : Bool). cond b Won (Lost n)) e in cc

-- where the word that is found at one slot's flag has no flag of another, that one isn't shared
pub unflagged : (start : Start) (w : World) (s t : ℕ) → t < start.shape.slots → word_of_flag t ≡ word_of_flag s →
    has_flag (found start w (TakeFlag s)) t ≡ false → is_shared (w.place t) ≡ false
unflagged start w s t low same clear =
    sym (and_true (nat_lt t start.shape.slots) (grind (arith, nat_tests)) (is_shared (w.place t)))
    ∙ sym (flag_found start w t)
    ∙ ap (λ (number : ℕ). has_flag (flag_word (is_flagged start w) number) t) same
    ∙ clear

-- ---- what steps leave

module _ (start : Start) (w v : World) (s : ℕ) (place : SlotPlace) (moved : v.place ≡ put w.place s place) where
  others : (t : ℕ) → t ≢ s → is_flagged start v t ≡ is_flagged start w t
  others t ne =
      ap (λ (p : SlotPlace). nat_lt t start.shape.slots && is_shared p)
      (ap (λ (f : ℕ → SlotPlace). f t) moved ∙ put_other w.place s place t ne)

  here : v.place s ≡ place
  here = ap (λ (f : ℕ → SlotPlace). f s) moved ∙ put_here w.place s place

  -- a slot that was put into the shared pool has its flag set
  pub raised_word : s < start.shape.slots → place ≡ Shared →
      word_at start v (Flags (word_of_flag s)) ≡ bit_or (word_at start w (Flags (word_of_flag s))) (flag_of s)
  raised_word low is =
      flag_raised (is_flagged start w) (is_flagged start v) s others
      (and_true (nat_lt s start.shape.slots) (grind (arith, nat_tests)) (is_shared (v.place s))
      ∙ ap is_shared (here ∙ is))

  -- and one that was taken out has it cleared
  pub taken_word : is_shared place ≡ false →
      word_at start v (Flags (word_of_flag s)) ≡ bit_and (word_at start w (Flags (word_of_flag s))) (all_but s)
  taken_word is =
      flag_taken (is_flagged start w) (is_flagged start v) s others
      (ap (λ (b : Bool). nat_lt s start.shape.slots && b) (ap is_shared here ∙ is)
      ∙ and_false (nat_lt s start.shape.slots))

-- where no flag is set, clearing it leaves the word
pub missed_word : (start : Start) (w : World) (s : ℕ) → has_flag (found start w (TakeFlag s)) s ≡ false →
    word_at start w (Flags (word_of_flag s)) ≡ bit_and (word_at start w (Flags (word_of_flag s))) (all_but s)
missed_word start w s e =
    flag_taken (is_flagged start w) (is_flagged start w) s (λ _ _. refl) (sym (flag_found start w s) ∙ e)

-- where the slots of a word are shared as before, so is the word
pub same_word : (start : Start) (v w : World) (number : ℕ) →
    ((s : ℕ) → word_of_flag s ≡ number → is_shared (v.place s) ≡ is_shared (w.place s)) →
    word_at start v (Flags number) ≡ word_at start w (Flags number)
same_word start v w number same =
    flag_word_same (is_flagged start v) (is_flagged start w) number
    (λ s is. ap (λ (b : Bool). nat_lt s start.shape.slots && b) (same s is))

-- ---- a flag word, made bit by bit

module _ (is_set : ℕ → Bool) (number : ℕ) where
  -- the flags of the first slots of a word
  pub flags_of_first : ℕ → ℕ
  flags_of_first i = first_bits (λ j. is_set (64 * number + j)) i

  pub no_flags : flags_of_first 0 ≡ 0
  unfolding flags_of_first first_bits
  no_flags = refl

  next_flags : (i : ℕ) → flags_of_first (suc i) ≡ flags_of_first i + digit (is_set (64 * number + i)) * 2 ^ i
  unfolding flags_of_first first_bits
  next_flags i = refl

  one_more : (i : ℕ) → flags_of_first (i + 1) ≡ flags_of_first (suc i)
  one_more i = let next : i + 1 ≡ suc i = omega arith in ap flags_of_first next

  -- one more slot
  pub flag_set : (i : ℕ) → i < 64 → is_set (64 * number + i) ≡ true →
      flags_of_first (i + 1) ≡ flags_of_first i + 1 * 2 ^ i % 2 ^ 64
  flag_set i low set = one_more i ∙ next_flags i ∙ ap (λ (b : Bool). flags_of_first i + digit b * 2 ^ i) set
      ∙ (let one = one_shl i 64 low in omega (arith, one))

  pub flag_clear : (i : ℕ) → is_set (64 * number + i) ≡ false → flags_of_first (i + 1) ≡ flags_of_first i
  flag_clear i clear =
      one_more i ∙ next_flags i ∙ ap (λ (b : Bool). flags_of_first i + digit b * 2 ^ i) clear ∙ omega arith

  -- there is room for it
  pub flags_fit : (i : ℕ) → i < 64 → flags_of_first i + 1 * 2 ^ i % 2 ^ 64 < 2 ^ 64
  unfolding flags_of_first
  flags_fit i low =
      let small = first_bits-lt (λ j. is_set (64 * number + j)) i in
      let one = one_shl i 64 low in
      let most : 2 ^ suc i ≤ 2 ^ 64 = pow_mono {i = suc i} {j = 64} low in
      let twice = pow-suc 2 i in
      omega (arith, small, one, most, twice)

  -- and at last it is the whole word
  pub flags_whole : flags_of_first 64 ≡ flag_word is_set number
  unfolding flags_of_first flag_word
  flags_whole = refl
