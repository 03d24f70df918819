-- A link and its word determine each other.
use Rattle.std.proofs.Common.{◌≡◌, ℕ, zero, suc, ◌+◌, ◌*◌, ◌/◌, ◌%◌, ◌^◌, ◌<◌, ◌==◌, Bool, true, false}
use Rattle.std.proofs.Common.{Option, Some, None, refl, sym, ap, ◌∙◌, subst, arith}
use Rattle.std.specs.Prelude.{bit_or, IfSome}
use Rattle.std.specs.Int.Bits.{or_zero_r}
use Rattle.std.proofs.lemmas.Nat.{or_block}
use Rattle.vbr_words.specs.declared.link.Link.{Link}
use Rattle.vbr_words.specs.declared.link.TheConstants.{MARK, VERSION_UNIT, MAX_SLOTS}
use Rattle.vbr_words.specs.Words.{IsLink, slot_field, mark_digit, mark_field, slot_in, word_of, link_of}

-- ---- the fields

pub slot_field-slot_in : (field : ℕ) → slot_field (slot_in field) ≡ field
slot_field-slot_in zero = refl
slot_field-slot_in (suc slot) = refl

slot_in-slot_field : (slot : Option ℕ) → slot_in (slot_field slot) ≡ slot
slot_in-slot_field None = refl
slot_in-slot_field (Some slot) = refl

mark_field-is : (digit : ℕ) → digit < 2 → mark_field (digit == 1) ≡ digit * MARK
mark_field-is zero small = refl
mark_field-is (suc zero) small = refl
mark_field-is (suc (suc n)) small = absurd (omega arith)

mark_field-digit : (mark : Bool) → mark_field mark ≡ mark_digit mark * MARK
mark_field-digit true = refl
mark_field-digit false = refl

pub digit-small : (mark : Bool) → mark_digit mark < 2
digit-small true = omega arith
digit-small false = omega arith

digit-test : (mark : Bool) → (mark_digit mark == 1) ≡ mark
digit-test true = refl
digit-test false = refl

pub slot_field-small : (slot : Option ℕ) → IfSome slot (λ s. s < MAX_SLOTS) → slot_field slot < MARK
slot_field-small None h = omega arith
slot_field-small (Some slot) h = omega arith

-- ---- the word of a word's link is that word

pub word_of-link_of : (word : ℕ) → word_of (link_of word) ≡ word
unfolding word_of link_of
word_of-link_of word =
    rw (slot_field-slot_in (word % MARK), mark_field-is (word / MARK % 2) (omega arith)) (omega arith)

-- ---- the link of a link's word is that link

low : (field digit version : ℕ) → field < MARK → digit < 2 →
    (field + digit * MARK + version * VERSION_UNIT) % MARK ≡ field
low field digit version f d = omega arith

middle : (field digit version : ℕ) → field < MARK → digit < 2 →
    (field + digit * MARK + version * VERSION_UNIT) / MARK % 2 ≡ digit
middle field digit version f d = omega arith

high : (field digit version : ℕ) → field < MARK → digit < 2 →
    (field + digit * MARK + version * VERSION_UNIT) / VERSION_UNIT ≡ version
high field digit version f d = omega arith

pub link_of-word_of : (link : Link) → IsLink link → link_of (word_of link) ≡ link
unfolding word_of link_of
link_of-word_of link is =
    let small = slot_field-small link.slot is.slot in
    let bit = digit-small link.mark in
    rw (
      mark_field-digit link.mark,
      low (slot_field link.slot) (mark_digit link.mark) link.version small bit,
      middle (slot_field link.slot) (mark_digit link.mark) link.version small bit,
      high (slot_field link.slot) (mark_digit link.mark) link.version small bit,
      slot_in-slot_field link.slot,
      digit-test link.mark,
    ) refl

-- ---- each u64 is the word of one link

pub slot_in-low : (field : ℕ) → field < MARK → IfSome (slot_in field) (λ (s : ℕ). s < MAX_SLOTS)
slot_in-low zero small = tt
slot_in-low (suc s) small = omega arith

pub IsLink-link_of : (word : ℕ) → word < 2 ^ 95 → IsLink (link_of word)
unfolding link_of
IsLink-link_of word fits = record { slot = slot_in-low (word % MARK) (omega arith); version = omega arith }

pub word_of-lt : (link : Link) → IsLink link → word_of link < 2 ^ 95
unfolding word_of
word_of-lt link is =
    let small = slot_field-small link.slot is.slot in
    let bit = digit-small link.mark in
    rw (mark_field-digit link.mark) (omega (arith, is.version))

-- links with one word are one link
pub same_link : (a b : Link) → IsLink a → IsLink b → word_of a ≡ word_of b → a ≡ b
same_link a b is_a is_b same = sym (link_of-word_of a is_a) ∙ ap link_of same ∙ link_of-word_of b is_b

-- words with one link are one word
pub same_word : (a b : ℕ) → link_of a ≡ link_of b → a ≡ b
same_word a b same = sym (word_of-link_of a) ∙ ap word_of same ∙ word_of-link_of b

-- ---- the mark

or_one : (n : ℕ) → bit_or n 1 ≡ n / 2 * 2 + 1
or_one n = subst (λ (x : ℕ). bit_or x 1 ≡ n / 2 * 2 + 1) {x = n / 2 * 2 ^ 1 + n % 2} (omega arith)
    (or_block 1 (n / 2) 0 (n % 2) 1 (omega arith) (omega arith)
    ∙ rw (or_zero_r (n / 2), last (n % 2) (omega arith)) refl)
  where
    last : (digit : ℕ) → digit < 2 → bit_or digit 1 ≡ 1
    last zero small = refl
    last (suc zero) small = refl
    last (suc (suc d)) small = absurd (omega arith)

-- ---- a word by its parts

-- the link of a word whose slot field and whose mark and version are these
pub link_of_parts : (named rest : ℕ) → named < MARK →
    link_of (rest * MARK + named) ≡ record { slot = slot_in named; mark = rest % 2 == 1; version = rest / 2 }
unfolding link_of
link_of_parts named rest small =
    let low : (rest * MARK + named) % MARK ≡ named = omega arith in
    let middle : (rest * MARK + named) / MARK % 2 ≡ rest % 2 = omega arith in
    let high : (rest * MARK + named) / VERSION_UNIT ≡ rest / 2 = omega arith in
    λ i. record { slot = slot_in (low i); mark = middle i == 1; version = high i }

-- the word of a link from its parts
pub word_of_parts : (link : Link) →
    (link.version * 2 + mark_digit link.mark) * MARK + slot_field link.slot ≡ word_of link
unfolding word_of
word_of_parts link = rw (mark_field-digit link.mark) (omega arith)

-- a word with its mark set has the link with its mark set
pub link_of-marked : (named rest : ℕ) → named < MARK →
    link_of (bit_or rest 1 * MARK + named) ≡ record (link_of (rest * MARK + named)) { mark = true }
link_of-marked named rest small =
    let set : (rest / 2 * 2 + 1) % 2 ≡ 1 = omega arith in
    let same : (rest / 2 * 2 + 1) / 2 ≡ rest / 2 = omega arith in
    rw (or_one rest, link_of_parts named (rest / 2 * 2 + 1) small, link_of_parts named rest small, set, same) refl
