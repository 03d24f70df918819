-- The words of a world, in the order of their places, as a table keeps them.
use Rattle.std.specs.Prelude.{◌≡◌, ℕ, List, length, slice_index}
use Rattle.vbr_machine.specs.Start.{Start}
use Rattle.vbr_words.specs.Dimensions.{Dimensions}
use Rattle.vbr_words.specs.Links.{IsLinkOf}
use Rattle.vbr_words.specs.Packing.{packed, slot_bits}
use Rattle.vbr_words.specs.Places.{IsIn, index_of, words_in}
use Rattle.vbr_words.specs.declared.place.Place.{Place}
use Rattle.vbr_words.specs.declared.place.Place.TheVariants.{Head, LinkOf}
use Rattle.vbr_machine.specs.Machine.{World, word_at}

-- what a table of a shape keeps at a place for a word of a world: a link word packed, and any other as it is
abbrev pub kept_at : Dimensions → Place → ℕ → ℕ
kept_at shape (Head bucket) word = packed (slot_bits shape.slots) word
kept_at shape (LinkOf slot) word = packed (slot_bits shape.slots) word
kept_at shape _ word = word

-- the word at the place is kept as it is
abbrev pub IsPlain : Place → Type 0
IsPlain (Head bucket) = ⊥
IsPlain (LinkOf slot) = ⊥
IsPlain _ = Unit {0}

-- the list is the words of the world: at the index of each place stands what is kept of the word at that place
pub record AreWordsOf (start : Start) (w : World) (words : List ℕ) : Type 0 where
  pub count : length words ≡ words_in start.shape
  pub each : (place : Place) → IsIn start.shape place → slice_index words (index_of start.shape place) ≡ kept_at start.shape place (word_at start w place)

-- the links at the heads of the buckets are links of the shape
abbrev pub HeadsFit : Dimensions → World → Type 0
HeadsFit shape w = (bucket : ℕ) → IsLinkOf shape (w.head bucket)
