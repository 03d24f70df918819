-- Link words that have room are kept in 64 bits each, and no two in the same.
use Rattle.std.proofs.Common.{◌≡◌, ℕ, suc, ◌+◌, ◌-◌, ◌*◌, ◌/◌, ◌%◌, ◌^◌, ◌<◌, ◌≤◌, Option, Some, None, sym, ap}
use Rattle.std.proofs.Common.{◌∙◌}
use Rattle.std.proofs.Common.{subst, arith, inl, inr}
use Rattle.std.specs.Prelude.{IfSome, bit_and}
use Rattle.std.specs.Int.{leading_zeros, w32}
use Rattle.std.proofs.Math.Nat.{pow-suc, pow-le-pow_right}
use Rattle.std.proofs.lemmas.Bool.{cases_lt}
use Rattle.std.proofs.lemmas.Nat.{shr_high, mod_low, mul-add-lt, pow-add, pow_pos, leading_length, div-add-mod'}
use Rattle.std.proofs.lemmas.Nat.{and_mask, mod_below, mul-le, one_shl, shl_whole, shr_below}
use Rattle.vbr_words.specs.declared.link.Link.{Link}
use Rattle.vbr_words.specs.declared.link.TheConstants.{MARK, MAX_SLOTS, SLOT_BITS}
use Rattle.vbr_words.specs.Dimensions.{Dimensions, IsShape}
use Rattle.vbr_words.specs.Links.{IsLinkOf}
use Rattle.vbr_words.specs.Packing.{IsPackable, packed, slot_bits, unpacked}
use Rattle.vbr_words.specs.Words.{IsLink, link_of, mark_digit, slot_field, word_of}
use Rattle.vbr_words.proofs.LinkWords.{digit-small, slot_field-slot_in, word_of_parts}

-- what is kept is the word again
pub unpacked-packed : (bits word : ℕ) → IsPackable bits word → unpacked bits (packed bits word) ≡ word
unfolding packed unpacked
unpacked-packed bits word room =
    (λ i. shr_high (word / MARK) bits (word % MARK) room.slot i * MARK
    + mod_low (word / MARK) bits (word % MARK) room.slot i)
    ∙ div-add-mod' word MARK

-- so no two words are kept in the same
pub packed_same : (bits a b : ℕ) → IsPackable bits a → IsPackable bits b → packed bits a ≡ packed bits b → a ≡ b
packed_same bits a b room_a room_b same =
    sym (unpacked-packed bits a room_a) ∙ ap (unpacked bits) same ∙ unpacked-packed bits b room_b

-- and each is kept in 64 bits
pub packed-lt : (bits word : ℕ) → bits ≤ SLOT_BITS → IsPackable bits word → packed bits word < 2 ^ 64
unfolding packed
packed-lt bits word few room =
    let whole : bits + (64 - bits) ≡ 64 = omega arith in
    subst (λ (n : ℕ). word / MARK * 2 ^ bits + word % MARK < n)
    (sym (pow-add 2 bits (64 - bits)) ∙ ap (λ (n : ℕ). 2 ^ n) whole)
    (mul-add-lt (word / MARK) (2 ^ bits) (word % MARK) (2 ^ (64 - bits)) room.version room.slot)

-- ---- how many bits name a slot

pub power_up : (i j : ℕ) → i ≤ j → 2 ^ i ≤ 2 ^ j
power_up i j le = pow-le-pow_right (omega arith) le

-- enough for each slot and for none, and no more than so many where so many are enough
pub slot_bits-enough : (slots : ℕ) → slots ≤ MAX_SLOTS → slots < 2 ^ slot_bits slots
unfolding slot_bits
slot_bits-enough slots few =
    let length = leading_length 32 slots (omega arith) in
    let is : 32 - leading_zeros w32 slots ≡ length.0 = let sum = length.1 in omega arith in
    subst (λ (n : ℕ). slots < 2 ^ n) (sym is) length.2

pub slot_bits-few : (slots most : ℕ) → slots < 2 ^ most → most ≤ SLOT_BITS → slot_bits slots ≤ most
unfolding slot_bits
slot_bits-few slots most low few =
    let wide : 2 ^ most ≤ 2 ^ 31 = power_up most 31 few in
    let length = leading_length 32 slots (omega (arith, wide, low)) in
    let is : 32 - leading_zeros w32 slots ≡ length.0 = let sum = length.1 in omega arith in
    elim (cases_lt most length.0) [
      | inl more ↦
          let high : 2 ^ suc most ≤ 2 ^ length.0 = power_up (suc most) length.0 (omega arith) in
          let next : 2 ^ suc most ≡ 2 ^ most * 2 = pow-suc 2 most in
          absurd (omega (arith, high, next, low, length.3))
      | inr none ↦ omega (arith, is, none)
    ]

pub slot_bits-wide : (slots : ℕ) → slots ≤ MAX_SLOTS → slot_bits slots ≤ SLOT_BITS
slot_bits-wide slots few = slot_bits-few slots 31 (omega arith) (omega arith)

-- fewer slots leave room for an epoch for which more do
pub room_with_fewer : (slots most epoch : ℕ) → slots < 2 ^ most → most ≤ SLOT_BITS → epoch < 2 ^ (63 - most) →
    epoch < 2 ^ (63 - slot_bits slots)
room_with_fewer slots most epoch low few room =
    let fewer = slot_bits-few slots most low few in
    let more : 2 ^ (63 - most) ≤ 2 ^ (63 - slot_bits slots) =
    power_up (63 - most) (63 - slot_bits slots) (omega (arith, fewer)) in
    omega (arith, room, more)

-- ---- links of a shape

-- a link has room where its slot field and its version are low
pub has_room : (bits : ℕ) → bits ≤ SLOT_BITS → (link : Link) → slot_field link.slot < 2 ^ bits →
    link.version < 2 ^ (63 - bits) → IsPackable bits (word_of link)
has_room bits few link named low =
    let wide : 2 ^ bits ≤ 2 ^ 31 = power_up bits 31 few in
    let small : slot_field link.slot < MARK = omega (arith, wide, named) in
    let digit = digit-small link.mark in
    let rest : ℕ = link.version * 2 + mark_digit link.mark in
    let step : 64 - bits ≡ suc (63 - bits) = omega arith in
    let next : 2 ^ (64 - bits) ≡ 2 ^ (63 - bits) * 2 = ap (λ (n : ℕ). 2 ^ n) step ∙ pow-suc 2 (63 - bits) in
    let is : rest * MARK + slot_field link.slot ≡ word_of link = word_of_parts link in
    let field : (rest * MARK + slot_field link.slot) % MARK ≡ slot_field link.slot = omega (arith, small) in
    let above : (rest * MARK + slot_field link.slot) / MARK ≡ rest = omega (arith, small) in
    subst (IsPackable bits) is (record {
      slot = subst (λ (n : ℕ). n < 2 ^ bits) (sym field) named;
      version = subst (λ (n : ℕ). n < 2 ^ (64 - bits)) (sym above) (omega (arith, next, low, digit));
    })

-- there is room for the version 1
pub some_version : (bits : ℕ) → bits ≤ SLOT_BITS → 1 < 2 ^ (63 - bits)
some_version bits few = let more : 2 ^ 1 ≤ 2 ^ (63 - bits) = power_up 1 (63 - bits) (omega arith) in omega (arith, more)

-- so does one that names a slot of a shape, if any, and whose version is an epoch of it
pub shape_has_room : (shape : Dimensions) → IsShape shape → (link : Link) → IsLinkOf shape link →
    IsPackable (slot_bits shape.slots) (word_of link)
shape_has_room shape is link fits =
    has_room (slot_bits shape.slots) (slot_bits-wide shape.slots is.slots) link (field link.slot fits.slot)
    (let room = is.room in let epoch = fits.version in omega (arith, room, epoch))
  where
    field : (slot : Option ℕ) → IfSome slot (λ s. s < shape.slots) → slot_field slot < 2 ^ slot_bits shape.slots
    field None low = pow_pos (slot_bits shape.slots)
    field (Some s) low = let enough = slot_bits-enough shape.slots is.slots in omega (arith, enough, low)

-- and it is a link
pub is_link : {shape : Dimensions} {link : Link} → IsShape shape → IsLinkOf shape link → IsLink link
is_link {shape} {link} is fits = record {
  slot = slot link.slot fits.slot;
  version = let last = is.last_epoch in let epoch = fits.version in omega arith;
}
  where
    slot : (slot : Option ℕ) → IfSome slot (λ s. s < shape.slots) → IfSome slot (λ s. s < MAX_SLOTS)
    slot None low = tt
    slot (Some s) low = let few = is.slots in omega arith

-- what is kept in 64 bits has room there
pub unpacked_room : (bits kept : ℕ) → bits ≤ SLOT_BITS → kept < 2 ^ 64 → IsPackable bits (unpacked bits kept)
unfolding unpacked
unpacked_room bits kept few fits =
    let named : ℕ = kept % 2 ^ bits in
    let rest : ℕ = kept / 2 ^ bits in
    let low : named < 2 ^ bits = mod_below kept (2 ^ bits) (pow_pos bits) in
    let wide : 2 ^ bits ≤ 2 ^ 31 = power_up bits 31 few in
    let whole : 64 ≡ 64 - bits + bits = omega arith in
    let high : rest < 2 ^ (64 - bits) =
    shr_below kept (64 - bits) bits (subst (λ (n : ℕ). kept < 2 ^ n) whole fits) in
    let field : (rest * MARK + named) % MARK ≡ named = omega (arith, low, wide) in
    let above : (rest * MARK + named) / MARK ≡ rest = omega (arith, low, wide) in
    record {
      slot = subst (λ (n : ℕ). n < 2 ^ bits) (sym field) low;
      version = subst (λ (n : ℕ). n < 2 ^ (64 - bits)) (sym above) high;
    }

-- the link of a word that has room names a slot that so many bits name, and has a version for which there is room
pub room_parts : (bits word : ℕ) → bits ≤ SLOT_BITS → IsPackable bits word →
    (slot_field (link_of word).slot < 2 ^ bits) × ((link_of word).version < 2 ^ (63 - bits))
unfolding link_of
room_parts bits word few room =
    let step : 64 - bits ≡ suc (63 - bits) = omega arith in
    let next : 2 ^ (64 - bits) ≡ 2 ^ (63 - bits) * 2 = ap (λ (n : ℕ). 2 ^ n) step ∙ pow-suc 2 (63 - bits) in
    let high = room.version in (
      subst (λ (n : ℕ). n < 2 ^ bits) (sym (slot_field-slot_in (word % MARK))) room.slot,
      omega (arith, high, next),
    )

-- what a table of a shape keeps of the opening link, and of the link to none without a birth
pub packed-opening : (bits : ℕ) → 2 ^ bits ≡ packed bits MARK
unfolding packed
packed-opening bits = let one : MARK / MARK ≡ 1 = omega arith in let none : MARK % MARK ≡ 0 = omega arith in
    sym (rw (one, none) (omega arith))

pub packed-none : (bits : ℕ) → 0 ≡ packed bits 0
unfolding packed
packed-none bits = omega arith

-- ---- as the program packs and unpacks

-- what is packed of the parts of a word
pub packed_parts : (named rest bits word : ℕ) → named < MARK → rest * MARK + named ≡ word → bits ≤ SLOT_BITS →
    IsPackable bits word → rest * 2 ^ bits % 2 ^ 64 + named ≡ packed bits word
unfolding packed
packed_parts named rest bits word small is few room =
    let below : word % MARK ≡ named = omega (arith, is, small) in
    let above : word / MARK ≡ rest = omega (arith, is, small) in
    let version : rest < 2 ^ (64 - bits) = subst (λ (n : ℕ). n < 2 ^ (64 - bits)) above room.version in
    let whole : rest * 2 ^ bits % 2 ^ 64 ≡ rest * 2 ^ bits = shl_whole rest (64 - bits) bits 64 version (omega arith) in
    (λ i. whole i + sym below i) ∙ (λ i. sym above i * 2 ^ bits + word % MARK)

-- what is unpacked by a mask and a shift
pub unpacked_parts : (kept bits : ℕ) → bits ≤ SLOT_BITS →
    kept / 2 ^ bits * MARK + bit_and kept (1 * 2 ^ bits % 2 ^ 64 - 1) ≡ unpacked bits kept
unfolding unpacked
unpacked_parts kept bits few =
    let one : 1 * 2 ^ bits % 2 ^ 64 ≡ 2 ^ bits = one_shl bits 64 (omega arith) in
    ap (λ (n : ℕ). kept / 2 ^ bits * MARK + bit_and kept (n - 1)) one
    ∙ ap (λ (n : ℕ). kept / 2 ^ bits * MARK + n) (and_mask kept bits)

-- the word that says what a shape is fits into 64 bits
pub shape_word_fits : (shape : Dimensions) (bits : ℕ) → IsShape shape → bits ≡ slot_bits shape.slots →
    (1 * 2 ^ bits % 2 ^ 64 ≡ 2 ^ bits) × (2 ^ bits * shape.last_epoch ≤ 2 ^ 63)
shape_word_fits shape bits is at =
    let few : bits ≤ SLOT_BITS = let wide = slot_bits-wide shape.slots is.slots in omega (arith, wide, at) in
    let sum : bits + (63 - bits) ≡ 63 = omega arith in
    let whole : 2 ^ bits * 2 ^ (63 - bits) ≡ 2 ^ 63 = sym (pow-add 2 bits (63 - bits)) ∙ ap (λ (n : ℕ). 2 ^ n) sum in
    let room : shape.last_epoch < 2 ^ (63 - bits) =
    subst (λ (b : ℕ). shape.last_epoch < 2 ^ (63 - b)) (sym at) is.room in
    let most : 2 ^ bits * shape.last_epoch ≤ 2 ^ bits * 2 ^ (63 - bits) =
    mul-le (2 ^ bits) shape.last_epoch (2 ^ bits) (2 ^ (63 - bits)) (omega arith) (omega (arith, room)) in
    (one_shl bits 64 (omega arith), subst (λ (n : ℕ). 2 ^ bits * shape.last_epoch ≤ n) whole most)

-- what is kept is kept again
pub packed-unpacked : (bits kept : ℕ) → bits ≤ SLOT_BITS → packed bits (unpacked bits kept) ≡ kept
unfolding packed unpacked
packed-unpacked bits kept few =
    let named : ℕ = kept % 2 ^ bits in
    let rest : ℕ = kept / 2 ^ bits in
    let low : named < 2 ^ bits = mod_below kept (2 ^ bits) (pow_pos bits) in
    let wide : 2 ^ bits ≤ 2 ^ 31 = power_up bits 31 few in
    let field : (rest * MARK + named) % MARK ≡ named = omega (arith, low, wide) in
    let above : (rest * MARK + named) / MARK ≡ rest = omega (arith, low, wide) in
    (λ i. above i * 2 ^ bits + field i) ∙ div-add-mod' kept (2 ^ bits)
