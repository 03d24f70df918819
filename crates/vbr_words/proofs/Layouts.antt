-- How a layout keeps a link word: what its mask, its mark and its version unit do.
use Rattle.std.proofs.Common.{◌≡◌, ◌≢◌, ℕ, zero, suc, ◌+◌, ◌-◌, ◌*◌, ◌/◌, ◌%◌, ◌^◌, ◌<◌, ◌≤◌, ◌==◌, Bool, true, false}
use Rattle.std.proofs.Common.{refl, sym}
use Rattle.std.proofs.Common.{ap, ◌∙◌, subst, arith, not, Option, inl, inr}
use Rattle.std.specs.Prelude.{bit_and, bit_or, IfSome}
use Rattle.std.specs.Int.{leading_zeros, w32}
use Rattle.std.specs.Int.Bits.{or_zero_r}
use Rattle.std.proofs.Math.Nat.{mul-suc, pow-suc, div-div-eq-div-mul}
use Rattle.std.proofs.Math.Pow.{mod-mod-pow}
use Rattle.std.proofs.lemmas.Nat.{and_mask, div-add-mod', leading_length, mod_below, mod_low, or_block, pow-add}
use Rattle.std.proofs.lemmas.Nat.{pow_pos}
use Rattle.std.proofs.lemmas.Nat.{mul-add-lt, shr_high}
use Rattle.std.proofs.lemmas.Bool.{cases_lt, ne_eqb}
use Rattle.std.proofs.lemmas.Nat.Bits.{and_pow}
use Rattle.vbr_words.specs.declared.link.Link.{Link}
use Rattle.vbr_words.specs.declared.link.TheConstants.{MARK, MAX_SLOTS, SLOT_BITS}
use Rattle.vbr_words.specs.Packing.{IsPackable, slot_bits, unpacked}
use Rattle.vbr_words.specs.Words.{IsLink, link_of, mark_digit, slot_field, slot_in, word_of}
use Rattle.vbr_words.proofs.LinkWords.{link_of-marked, link_of_parts, slot_field-slot_in, slot_field-small, slot_in-low}
use Rattle.vbr_words.proofs.LinkWords.{word_of_parts}
use Rattle.vbr_words.proofs.Packing.{power_up, slot_bits-enough, slot_bits-few, slot_bits-wide}

-- the mask is one less than the mark
pub mark_of : (bits mask : ℕ) → 2 ^ bits - 1 ≡ mask → mask + 1 ≡ 2 ^ bits
mark_of bits mask is = let some = pow_pos bits in omega (arith, is, some)

-- ---- the slot field

-- the mask takes the low bits of a word of 32 bits, which are those of the whole
pub named_of : (bits mask word : ℕ) → bits ≤ SLOT_BITS → 2 ^ bits - 1 ≡ mask →
    bit_and (word % 4294967296) mask ≡ word % 2 ^ bits
named_of bits mask word few is =
    ap (bit_and (word % 4294967296)) (sym is) ∙ and_mask (word % 4294967296) bits ∙ low
  where
    whole : 4294967296 ≡ 2 ^ (32 - bits + bits)
    whole = ap (λ (n : ℕ). 2 ^ n) (let sum : 32 ≡ 32 - bits + bits = omega (arith, few) in sum)

    low : word % 4294967296 % 2 ^ bits ≡ word % 2 ^ bits
    low = ap (λ (n : ℕ). word % n % 2 ^ bits) whole ∙ mod-mod-pow word (32 - bits) bits

-- ---- the mark

-- a word has it where its bit is one
pub mark_tested : (bits word mark : ℕ) → mark ≡ 2 ^ bits → (bit_and word mark ≢ 0 → word / 2 ^ bits % 2 ≡ 1) ×
    (bit_and word mark ≡ 0 → word / 2 ^ bits % 2 ≡ 0)
mark_tested bits word mark is = (some, none)
  where
    same : bit_and word mark ≡ (word / 2 ^ bits % 2) * 2 ^ bits
    same = ap (bit_and word) is ∙ and_pow word bits

    some : bit_and word mark ≢ 0 → word / 2 ^ bits % 2 ≡ 1
    some other = go (word / 2 ^ bits % 2) refl
      where
        go : (digit : ℕ) → word / 2 ^ bits % 2 ≡ digit → word / 2 ^ bits % 2 ≡ 1
        go zero e =
            let none : (word / 2 ^ bits % 2) * 2 ^ bits ≡ 0 * 2 ^ bits = ap (λ (n : ℕ). n * 2 ^ bits) e in
            absurd (other (same ∙ none ∙ (omega arith)))
        go (suc zero) e = e
        go (suc (suc n)) e = absurd (omega (arith, e))

    none : bit_and word mark ≡ 0 → word / 2 ^ bits % 2 ≡ 0
    none e = go (word / 2 ^ bits % 2) refl
      where
        go : (digit : ℕ) → word / 2 ^ bits % 2 ≡ digit → word / 2 ^ bits % 2 ≡ 0
        go zero z = z
        go (suc n) z =
            let some = pow_pos bits in
            let all : suc n * 2 ^ bits ≡ 0 = ap (λ (k : ℕ). k * 2 ^ bits) (sym z) ∙ sym same ∙ e in
            absurd (omega (arith, some, all))

-- with its bit set a word has the mark, and the rest as it was
pub marked_as : (bits word mark : ℕ) → mark ≡ 2 ^ bits →
    (bit_or word mark % 2 ^ bits ≡ word % 2 ^ bits) × (bit_or word mark / 2 ^ bits ≡ bit_or (word / 2 ^ bits) 1)
marked_as bits word mark is =
    let low = mod_below word (2 ^ bits) (pow_pos bits) in
    let parts : word ≡ word / 2 ^ bits * 2 ^ bits + word % 2 ^ bits = sym (div-add-mod' word (2 ^ bits)) in
    let one : mark ≡ 1 * 2 ^ bits + 0 = omega (arith, is) in
    let whole : bit_or word mark ≡ bit_or (word / 2 ^ bits) 1 * 2 ^ bits + word % 2 ^ bits =
    (λ i. bit_or (parts i) (one i))
    ∙ or_block bits (word / 2 ^ bits) 1 (word % 2 ^ bits) 0 low (pow_pos bits)
    ∙ ap (λ (n : ℕ). bit_or (word / 2 ^ bits) 1 * 2 ^ bits + n) (or_zero_r (word % 2 ^ bits)) in (
      ap (λ (n : ℕ). n % 2 ^ bits) whole ∙ mod_low (bit_or (word / 2 ^ bits) 1) bits (word % 2 ^ bits) low,
      ap (λ (n : ℕ). n / 2 ^ bits) whole ∙ shr_high (bit_or (word / 2 ^ bits) 1) bits (word % 2 ^ bits) low,
    )

-- ---- the version

-- it lies above the mark
pub version_above : (bits word mark : ℕ) → mark ≡ 2 ^ bits → word / (2 * mark) ≡ word / 2 ^ bits / 2
version_above bits word mark is =
    let unit : 2 * mark ≡ 2 ^ bits * 2 = omega (arith, is) in
    ap (λ (n : ℕ). word / n) unit ∙ sym (div-div-eq-div-mul word (2 ^ bits) 2)

-- ---- the wide word

-- the slot field of a word is below the wide mark
pub named_small : (bits word : ℕ) → bits ≤ SLOT_BITS → word % 2 ^ bits < MARK
named_small bits word few =
    let low = mod_below word (2 ^ bits) (pow_pos bits) in
    let most = power_up bits 31 few in
    omega (arith, low, most)

-- what is unpacked has these parts
pub unpacked_is : (bits word : ℕ) → word / 2 ^ bits * MARK + word % 2 ^ bits ≡ unpacked bits word
unfolding unpacked
unpacked_is bits word = refl

-- its slot field is that of the kept word
pub slot_kept : (bits word : ℕ) → bits ≤ SLOT_BITS → slot_field (link_of (unpacked bits word)).slot ≡ word % 2 ^ bits
slot_kept bits word few =
    ap (λ (n : ℕ). slot_field (link_of n).slot) (sym (unpacked_is bits word))
    ∙ ap (λ (l : Link). slot_field l.slot)
    (link_of_parts (word % 2 ^ bits) (word / 2 ^ bits) (named_small bits word few))
    ∙ slot_field-slot_in (word % 2 ^ bits)

-- and its slot is below the most
pub kept_fits : (bits word : ℕ) → bits ≤ SLOT_BITS →
    IfSome (link_of (unpacked bits word)).slot (λ (s : ℕ). s < MAX_SLOTS)
kept_fits bits word few =
    let P : Option ℕ → Type 0 = λ slot. IfSome slot (λ (s : ℕ). s < MAX_SLOTS) in
    subst P (ap (λ (l : Link). l.slot)
    (sym (link_of_parts (word % 2 ^ bits) (word / 2 ^ bits) (named_small bits word few))
    ∙ ap link_of (unpacked_is bits word))) (slot_in-low (word % 2 ^ bits) (named_small bits word few))

-- the slot field of a link that has room is low, and so is what stands above it
pub kept_parts : (bits : ℕ) (link : Link) → IsLink link → IsPackable bits (word_of link) →
    (slot_field link.slot < 2 ^ bits) × (link.version * 2 + mark_digit link.mark < 2 ^ (64 - bits))
kept_parts bits link fits room =
    let parts : (link.version * 2 + mark_digit link.mark) * MARK + slot_field link.slot ≡ word_of link =
    word_of_parts link in
    let small = slot_field-small link.slot fits.slot in
    let field : word_of link % MARK ≡ slot_field link.slot = omega (arith, parts, small) in
    let above : word_of link / MARK ≡ link.version * 2 + mark_digit link.mark = omega (arith, parts, small) in (
      subst (λ (n : ℕ). n < 2 ^ bits) field room.slot,
      subst (λ (n : ℕ). n < 2 ^ (64 - bits)) above room.version,
    )

-- a word of these parts is unpacked to the word of the link
pub encoded_is : (bits word : ℕ) (link : Link) → bits ≤ SLOT_BITS → IsLink link → IsPackable bits (word_of link) →
    word ≡ (link.version * 2 + mark_digit link.mark) * 2 ^ bits + slot_field link.slot →
    unpacked bits word ≡ word_of link
encoded_is bits word link few fits room is =
    let named = (kept_parts bits link fits room).0 in
    sym (unpacked_is bits word)
    ∙ (λ i. (ap (λ (n : ℕ). n / 2 ^ bits) is ∙ shr_high (link.version * 2 + mark_digit link.mark) bits
    (slot_field link.slot) named) i * MARK + (ap (λ (n : ℕ). n % 2 ^ bits) is ∙ mod_low
    (link.version * 2 + mark_digit link.mark) bits (slot_field link.slot) named) i)
    ∙ word_of_parts link

-- ---- what is decoded

digit_test : (digit : ℕ) (shown : Bool) → (shown ≡ true → digit ≡ 1) → (shown ≡ false → digit ≡ 0) →
    shown ≡ (digit == 1)
digit_test digit true one none = sym (ap (λ (n : ℕ). n == 1) (one refl))
digit_test digit false one none = sym (ap (λ (n : ℕ). n == 1) (none refl))

pub tested : (bits word mark : ℕ) → mark ≡ 2 ^ bits → not (bit_and word mark == 0) ≡ (word / 2 ^ bits % 2 == 1)
tested bits word mark is = digit_test (word / 2 ^ bits % 2) (not (bit_and word mark == 0)) one none
  where
    of_test : (n : ℕ) → (not (n == 0) ≡ true → n ≢ 0) × (not (n == 0) ≡ false → n ≡ 0)
    of_test zero = (λ e. absurd (let x : false ≡ true = e in cc), λ e. refl)
    of_test (suc n) = (
      λ e z. absurd (omega (arith, z)),
      λ e. absurd (let other = ne_eqb (suc n) 0 (λ (z : suc n ≡ 0). absurd (omega (arith, z))) in
          let x : true ≡ false = sym (ap not other) ∙ e in cc),
    )

    one : not (bit_and word mark == 0) ≡ true → word / 2 ^ bits % 2 ≡ 1
    one e = (mark_tested bits word mark is).0 ((of_test (bit_and word mark)).0 e)

    none : not (bit_and word mark == 0) ≡ false → word / 2 ^ bits % 2 ≡ 0
    none e = (mark_tested bits word mark is).1 ((of_test (bit_and word mark)).1 e)

pub decoded_is : (bits word mark named : ℕ) (slot : Option ℕ) (shown : Bool) → bits ≤ SLOT_BITS → mark ≡ 2 ^ bits →
    named ≡ word % 2 ^ bits → slot ≡ slot_in named → shown ≡ (word / 2 ^ bits % 2 == 1) →
    record { slot = slot; mark = shown; version = word / (2 * mark) } ≡ link_of (unpacked bits word)
decoded_is bits word mark named slot shown few is field cut test =
    (λ i. record {
      slot = (cut ∙ ap slot_in field) i;
      mark = test i;
      version = version_above bits word mark is i;
    })
    ∙ sym (link_of_parts (word % 2 ^ bits) (word / 2 ^ bits) (named_small bits word few))
    ∙ ap link_of (unpacked_is bits word)

-- a word with its bit set is the marked one
pub marked_is : (bits word mark : ℕ) → bits ≤ SLOT_BITS → mark ≡ 2 ^ bits →
    link_of (unpacked bits (bit_or word mark)) ≡ record (link_of (unpacked bits word)) { mark = true }
marked_is bits word mark few is =
    let parts = marked_as bits word mark is in
    ap link_of (sym (unpacked_is bits (bit_or word mark)) ∙ (λ i. parts.1 i * MARK + parts.0 i))
    ∙ link_of-marked (word % 2 ^ bits) (word / 2 ^ bits) (named_small bits word few)
    ∙ ap (λ (n : ℕ). record (link_of n) { mark = true }) (unpacked_is bits word)

-- ---- what is encoded

-- the sum of the fields
pub fields_add_up : (bits named marked version digit mark : ℕ) → mark ≡ 2 ^ bits → marked ≡ digit * 2 ^ bits →
    named + marked + version * (2 * mark) ≡ (version * 2 + digit) * 2 ^ bits + named
fields_add_up bits named marked version digit mark is one =
    let unit : version * (2 * mark) ≡ version * (2 * 2 ^ bits) = ap (λ (n : ℕ). version * (2 * n)) is in
    omega (arith, unit, one)

-- it is below 2^64
pub encoded-lt : (bits : ℕ) (link : Link) → bits ≤ SLOT_BITS → IsLink link → IsPackable bits (word_of link) →
    (link.version * 2 + mark_digit link.mark) * 2 ^ bits + slot_field link.slot < 18446744073709551616
encoded-lt bits link few fits room =
    let parts = kept_parts bits link fits room in
    let whole : 2 ^ bits * 2 ^ (64 - bits) ≡ 18446744073709551616 =
    (sym (pow-add 2 bits (64 - bits)) ∙ ap (λ (n : ℕ). 2 ^ n) (let sum : bits + (64 - bits) ≡ 64 = omega (arith, few) in
    sum)) in
    subst (λ (n : ℕ). (link.version * 2 + mark_digit link.mark) * 2 ^ bits + slot_field link.slot < n) whole
    (mul-add-lt (link.version * 2 + mark_digit link.mark) (2 ^ bits) (slot_field link.slot) (2 ^ (64 - bits)) parts.1
    parts.0)

-- ---- the mask of a number of slots

ones_shifted : (n k : ℕ) → (2 ^ k * 2 ^ n - 1) / 2 ^ k ≡ 2 ^ n - 1
ones_shifted n k =
    let some_n = pow_pos n in
    let some_k = pow_pos k in
    let low : 2 ^ k - 1 < 2 ^ k = omega (arith, some_k) in
    let next : suc (2 ^ n - 1) ≡ 2 ^ n = omega (arith, some_n) in
    let product : 2 ^ k * suc (2 ^ n - 1) ≡ 2 ^ k * (2 ^ n - 1) + 2 ^ k = mul-suc (2 ^ k) (2 ^ n - 1) in
    let all : 2 ^ k * 2 ^ n ≡ 2 ^ k * suc (2 ^ n - 1) = ap (λ (m : ℕ). 2 ^ k * m) (sym next) in
    let is : 2 ^ k * 2 ^ n - 1 ≡ (2 ^ n - 1) * 2 ^ k + (2 ^ k - 1) = omega (arith, product, all, some_k) in
    ap (λ (m : ℕ). m / 2 ^ k) is ∙ shr_high (2 ^ n - 1) k (2 ^ k - 1) low

pub mask_of : (slots : ℕ) → 0 < slots → slots ≤ MAX_SLOTS →
    (4294967295 / 2 ^ leading_zeros w32 slots ≡ 2 ^ slot_bits slots - 1) ×
    (slot_bits (4294967295 / 2 ^ leading_zeros w32 slots) ≡ slot_bits slots)
unfolding slot_bits
mask_of slots some few =
    let length = leading_length 32 slots (omega (arith, few)) in
    let n : ℕ = length.0 in
    let k : ℕ = leading_zeros w32 slots in
    let bits : 32 - leading_zeros w32 slots ≡ n = let sum = length.1 in omega (arith, sum) in
    let whole : 4294967296 ≡ 2 ^ k * 2 ^ n = (ap (λ (m : ℕ). 2 ^ m) (sym length.1) ∙ pow-add 2 k n) in
    let mask : 4294967295 / 2 ^ k ≡ 2 ^ n - 1 =
    (ap (λ (m : ℕ). (m - 1) / 2 ^ k) whole ∙ ones_shifted n k) in
    let short : n ≤ 31 = (let wide = slot_bits-wide slots few in omega (arith, wide, bits)) in
    let same : slot_bits (2 ^ n - 1) ≡ n = ones_bits n short in (
      mask ∙ ap (λ (m : ℕ). 2 ^ m - 1) (sym bits),
      ap slot_bits mask ∙ same ∙ sym bits,
    )
  where
    ones_bits : (n : ℕ) → n ≤ 31 → slot_bits (2 ^ n - 1) ≡ n
    ones_bits n short =
        let some = pow_pos n in
        let most = slot_bits-few (2 ^ n - 1) n (omega (arith, some)) short in
        let wide = power_up n 31 short in
        let enough = slot_bits-enough (2 ^ n - 1) (omega (arith, wide, some)) in
        elim (cases_lt (slot_bits (2 ^ n - 1)) n) [
          | inl less ↦
              let up : 2 ^ suc (slot_bits (2 ^ n - 1)) ≤ 2 ^ n = power_up (suc (slot_bits (2 ^ n - 1))) n
              (omega (arith, less)) in
              let twice = pow-suc 2 (slot_bits (2 ^ n - 1)) in
              let positive = pow_pos (slot_bits (2 ^ n - 1)) in
              absurd (omega (arith, up, twice, positive, enough))
          | inr more ↦ omega (arith, most, more)
        ]
