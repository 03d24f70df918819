-- Flag words: one bit for each of sixty-four slots.
use Rattle.std.specs.Prelude.{◌≡◌, ℕ, zero, suc, ◌+◌, ◌-◌, ◌*◌, ◌/◌, ◌%◌, ◌^◌, ◌<◌, ◌==◌, Bool, true, false, ◌⊎◌}
use Rattle.std.specs.Int.{bit_at}
use Rattle.vbr_words.specs.declared.flags.TheConstants.{FLAGS}

-- the number of the word that has a slot's flag
abbrev pub word_of_flag : ℕ → ℕ
word_of_flag slot = slot / FLAGS

-- how many words the flags of so many slots take
abbrev pub flag_words : ℕ → ℕ
flag_words slots = (slots + (FLAGS - 1)) / FLAGS

-- the flag of a slot, alone in its word
abbrev pub flag_of : ℕ → ℕ
flag_of slot = 2 ^ (slot % FLAGS)

-- all flags of a word but the flag of a slot
abbrev pub all_but : ℕ → ℕ
all_but slot = 2 ^ 64 - 1 - flag_of slot

-- whether a word has the flag of a slot
unfoldable pub has_flag : ℕ → ℕ → Bool
has_flag word slot = bit_at word (slot % FLAGS) == 1

-- a bit
abbrev pub digit : Bool → ℕ
digit true = 1
digit false = 0

-- the number that has these as its first bits, so many, and no others
unfoldable pub first_bits : (ℕ → Bool) → ℕ → ℕ
first_bits bit zero = 0
first_bits bit (suc n) = first_bits bit n + digit (bit n) * 2 ^ n

-- the word with this number, if just these slots have their flags set
unfoldable pub flag_word : (ℕ → Bool) → ℕ → ℕ
flag_word is_set number = first_bits (λ i. is_set (FLAGS * number + i)) FLAGS

-- the first slot of a slot's word whose flag is set there, and if none is, the first slot of the next word
pub record IsNextFlag (word slot next : ℕ) : Type 0 where
  pub before : (s : ℕ) → word_of_flag s ≡ word_of_flag slot → s < next → has_flag word s ≡ false
  pub place : ((word_of_flag next ≡ word_of_flag slot) × (has_flag word next ≡ true)) ⊎ ((word ≡ 0) × (next ≡ FLAGS * (word_of_flag slot + 1)))
