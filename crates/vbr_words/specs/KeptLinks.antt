-- The links of the words that a table keeps.
use Rattle.std.specs.Prelude.{ℕ, false}
use Rattle.vbr_words.specs.declared.link.Link.{Link}
use Rattle.vbr_words.specs.Packing.{unpacked}
use Rattle.vbr_words.specs.Words.{link_of}

-- the link of a word that is kept in 64 bits, of which so many name its slot
abbrev pub kept_link : ℕ → ℕ → Link
kept_link bits kept = link_of (unpacked bits kept)

-- the unmarked link to the slot that such a word names, or to none, with this version
abbrev pub link_anew : ℕ → ℕ → ℕ → Link
link_anew bits kept version = record { slot = (kept_link bits kept).slot; mark = false; version = version }
