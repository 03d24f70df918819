-- A place is known by its index.
use Rattle.std.proofs.Common.{◌≡◌, ℕ, ◌+◌, ◌-◌, ◌*◌, ◌/◌, ◌%◌, ◌<◌, ◌≤◌, ◌==◌, nat_lt, Bool, true, false, if◌then◌else◌}
use Rattle.std.proofs.Common.{refl, sym, subst, ap, ◌∙◌, arith}
use Rattle.std.proofs.lemmas.Bool.Decides.{nat_tests}
use Rattle.vbr_words.specs.Dimensions.{Dimensions}
use Rattle.vbr_words.specs.Flags.{flag_words}
use Rattle.vbr_words.specs.Places.{IsIn, index_of, node_words, slots_index, flags_index, words_in}
use Rattle.vbr_words.specs.declared.place.Place.{Place}
use Rattle.vbr_words.specs.declared.place.Place.TheVariants.{Epoch, ShapeWord, Head, LinkOf, Birth, Stamp, Key, Value}
use Rattle.vbr_words.specs.declared.place.Place.TheVariants.{Flags}

-- the word of a slot with this number among its own
word_at : ℕ → ℕ → Place
word_at slot field = if field == 0 then LinkOf slot
    else (if field == 1 then Birth slot
    else (if field == 2 then Stamp slot else (if field == 3 then Key slot else Value slot)))

-- the place with an index, where the words of slots begin and end at these indices, and each slot has so many
place_from : ℕ → ℕ → ℕ → ℕ → Place
place_from base end words index =
    if index == 0 then Epoch
    else (if index == 1 then ShapeWord
    else (if nat_lt index base then Head (index - 2)
    else (if nat_lt index end then word_at ((index - base) / words) ((index - base) % words)
    else Flags (index - end))))

-- the place with an index in a shape
abbrev place_at : Dimensions → ℕ → Place
place_at shape index = place_from (slots_index shape) (flags_index shape) (node_words shape) index

-- ---- the words of a slot

-- how many each has, with values or without
abbrev words_with : Bool → ℕ
words_with values = if values then 5 else 4

-- a slot, and the number of a word, told apart again
slot_of : (values : Bool) (slot field : ℕ) → field < words_with values →
    (words_with values * slot + field) / words_with values ≡ slot
slot_of true slot field small = omega arith
slot_of false slot field small = omega arith

field_of : (values : Bool) (slot field : ℕ) → field < words_with values →
    (words_with values * slot + field) % words_with values ≡ field
field_of true slot field small = omega arith
field_of false slot field small = omega arith

-- the words of a slot end before those of all slots
before_end : (values : Bool) (base slot slots field : ℕ) → slot < slots → field < words_with values →
    base + words_with values * slot + field < base + words_with values * slots
before_end true base slot slots field low small = omega arith
before_end false base slot slots field low small = omega arith

behind_base : (base more field : ℕ) → base + more + field - base ≡ more + field
behind_base base more field = omega arith

no_less : (base more field : ℕ) → base ≤ base + more + field
no_less base more field = omega arith

-- four are there in any shape
four : (values : Bool) (field : ℕ) → field < 4 → field < words_with values
four true field small = omega arith
four false field small = small

five : (values : Bool) → values ≡ true → 4 < words_with values
five true is = omega arith
five false is = absurd (cc)

-- ---- places

in_slots : (base end words index : ℕ) → 2 ≤ base → base ≤ index → index < end →
    place_from base end words index ≡ word_at ((index - base) / words) ((index - base) % words)
unfolding place_from
in_slots base end words index two low high = grind (arith, nat_tests)

in_flags : (base end words index : ℕ) → 2 ≤ base → base ≤ end → end ≤ index →
    place_from base end words index ≡ Flags (index - end)
unfolding place_from
in_flags base end words index two low high = grind (arith, nat_tests)

in_heads : (base end words bucket : ℕ) → 2 + bucket < base → place_from base end words (2 + bucket) ≡ Head bucket
unfolding place_from
in_heads base end words bucket low = grind (arith, nat_tests)

behind_end : (end number : ℕ) → end + number - end ≡ number
behind_end end number = omega arith

end_on : (end number : ℕ) → end ≤ end + number
end_on end number = omega arith

lt_more : (i end more : ℕ) → i < end → i < end + more
lt_more i end more low = omega arith

onward : (end number more : ℕ) → number < more → end + number < end + more
onward end number more low = omega arith

module _ (shape : Dimensions) where
  two : 2 ≤ slots_index shape
  two = omega arith

  of_slot : (slot field : ℕ) → slot < shape.slots → field < node_words shape →
      place_at shape (slots_index shape + node_words shape * slot + field) ≡ word_at slot field
  of_slot slot field low small =
      in_slots (slots_index shape) (flags_index shape) (node_words shape)
      (slots_index shape + node_words shape * slot + field) two
      (no_less (slots_index shape) (node_words shape * slot) field)
      (before_end shape.values (slots_index shape) slot shape.slots field low small)
      ∙ ap (λ i. word_at (i / node_words shape) (i % node_words shape))
      (behind_base (slots_index shape) (node_words shape * slot) field)
      ∙ ap (λ s. word_at s ((node_words shape * slot + field) % node_words shape))
      (slot_of shape.values slot field small)
      ∙ ap (word_at slot) (field_of shape.values slot field small)

  -- the first word of a slot
  plus_none : (i : ℕ) → i ≡ i + 0
  plus_none i = omega arith

  place_at-index_of : (place : Place) → IsIn shape place → place_at shape (index_of shape place) ≡ place
  unfolding place_from word_at
  place_at-index_of Epoch is = refl
  place_at-index_of ShapeWord is = refl
  place_at-index_of (Head bucket) is =
      in_heads (slots_index shape) (flags_index shape) (node_words shape) bucket (omega arith)
  place_at-index_of (LinkOf slot) is = ap (place_at shape) (plus_none (slots_index shape + node_words shape * slot))
      ∙ of_slot slot 0 is (four shape.values 0 (omega arith))
  place_at-index_of (Birth slot) is = of_slot slot 1 is (four shape.values 1 (omega arith))
  place_at-index_of (Stamp slot) is = of_slot slot 2 is (four shape.values 2 (omega arith))
  place_at-index_of (Key slot) is = of_slot slot 3 is (four shape.values 3 (omega arith))
  place_at-index_of (Value slot) is = of_slot slot 4 is.0 (five shape.values is.1)
  place_at-index_of (Flags number) is =
      in_flags (slots_index shape) (flags_index shape) (node_words shape) (flags_index shape + number) two
      (end_on (slots_index shape) (node_words shape * shape.slots)) (end_on (flags_index shape) number)
      ∙ ap Flags (behind_end (flags_index shape) number)

  -- places with one index are one place
  pub same_place : (p q : Place) → IsIn shape p → IsIn shape q → index_of shape p ≡ index_of shape q → p ≡ q
  same_place p q in_p in_q same = sym (place_at-index_of p in_p) ∙ ap (place_at shape) same ∙ place_at-index_of q in_q

  -- what is before the flag words is below the number of words
  before_flags : (i : ℕ) → i < flags_index shape → i < words_in shape
  before_flags i low = lt_more i (flags_index shape) (flag_words shape.slots) low

  of_slot-lt : (slot field : ℕ) → slot < shape.slots → field < node_words shape →
      slots_index shape + node_words shape * slot + field < words_in shape
  of_slot-lt slot field low small =
      before_flags (slots_index shape + node_words shape * slot + field)
      (before_end shape.values (slots_index shape) slot shape.slots field low small)

  of_head-lt : (i : ℕ) → i < slots_index shape → i < words_in shape
  of_head-lt i low = before_flags i (lt_more i (slots_index shape) (node_words shape * shape.slots) low)

  -- each index is below the number of words
  pub index_of-lt : (place : Place) → IsIn shape place → index_of shape place < words_in shape
  index_of-lt Epoch is = of_head-lt 0 (omega arith)
  index_of-lt ShapeWord is = of_head-lt 1 (omega arith)
  index_of-lt (Head bucket) is = of_head-lt (2 + bucket) (omega arith)
  index_of-lt (LinkOf slot) is =
      let P : ℕ → Type 0 = λ i. i < words_in shape in
      subst P (sym (plus_none (slots_index shape + node_words shape * slot)))
      (of_slot-lt slot 0 is (four shape.values 0 (omega arith)))
  index_of-lt (Birth slot) is = of_slot-lt slot 1 is (four shape.values 1 (omega arith))
  index_of-lt (Stamp slot) is = of_slot-lt slot 2 is (four shape.values 2 (omega arith))
  index_of-lt (Key slot) is = of_slot-lt slot 3 is (four shape.values 3 (omega arith))
  index_of-lt (Value slot) is = of_slot-lt slot 4 is.0 (five shape.values is.1)
  index_of-lt (Flags number) is = onward (flags_index shape) number (flag_words shape.slots) is
