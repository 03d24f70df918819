-- How a table keeps a link word in 64 bits: so many bits as its slots need name a slot, and the mark and the version have the rest.
use Rattle.std.specs.Prelude.{ℕ, ◌+◌, ◌-◌, ◌*◌, ◌/◌, ◌%◌, ◌^◌, ◌<◌}
use Rattle.std.specs.Int.{leading_zeros, w32}
use Rattle.vbr_words.specs.declared.link.TheConstants.{MARK}

-- how many bits name a slot if there are so many: the fewest that have a number for each of them and for none
unfoldable pub slot_bits : ℕ → ℕ
slot_bits slots = 32 - leading_zeros w32 slots

-- the greatest last epoch if there are so many slots: the greatest version that there is room for beside a slot and the mark
abbrev pub max_epoch : ℕ → ℕ
max_epoch slots = 2 ^ (63 - slot_bits slots) - 1

-- the link word has room in 64 bits of which so many name its slot
pub record IsPackable (bits word : ℕ) : Type 0 where
  pub slot : word % MARK < 2 ^ bits
  pub version : word / MARK < 2 ^ (64 - bits)

-- the 64 bits in which it is kept
unfoldable pub packed : ℕ → ℕ → ℕ
packed bits word = word / MARK * 2 ^ bits + word % MARK

-- the link word that is kept in them
unfoldable pub unpacked : ℕ → ℕ → ℕ
unpacked bits kept = kept / 2 ^ bits * MARK + kept % 2 ^ bits
