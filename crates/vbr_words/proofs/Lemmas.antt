-- The lemmas of `vbr_words` that proofs of other crates cite, which import from here alone.

-- The bucket of a key is one of the shape.
pub use Rattle.vbr_words.proofs.Buckets.{bucket_of-lt}
-- A flag word has just the flags of the slots that are set; what sets or clears one flag; and which flag comes next.
pub use Rattle.vbr_words.proofs.FlagWords.{first_bits-lt, flag_raised, flag_taken, flag_word_same, has_flag-flag_word}
-- A place is known by its index.
pub use Rattle.vbr_words.proofs.Indices.{index_of-lt, same_place}
-- A link and its word determine each other.
pub use Rattle.vbr_words.proofs.LinkWords.{IsLink-link_of, link_of-word_of, word_of-link_of}
-- What a table keeps of a link word has its slot field.
pub use Rattle.vbr_words.proofs.Layouts.{kept_fits}
-- Link words that have room are kept in 64 bits each, and no two in the same.
pub use Rattle.vbr_words.proofs.Packing.{has_room, is_link, packed-lt, packed-none, packed-opening}
pub use Rattle.vbr_words.proofs.Packing.{packed_same, room_parts, room_with_fewer, shape_has_room}
pub use Rattle.vbr_words.proofs.Packing.{slot_bits-enough, slot_bits-wide}
pub use Rattle.vbr_words.proofs.Packing.{packed-unpacked, some_version, unpacked-packed, unpacked_room}
