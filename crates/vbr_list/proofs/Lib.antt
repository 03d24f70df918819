-- What proofs of this crate name of its specs, of std and of the crates below it, from one place.
mod Names
-- The pieces of a call, one after another: what they add up to, and what they keep.
mod pieces
-- Traversals of a bucket: from place to place, whatever others do meanwhile.
mod traversals
-- Entries that are named by where they stand: whether they were in the map, and when.
mod named_entries
-- Look-ups and gets: traversals by loads alone, and values that are read.
mod look_ups
-- Iterations: cursors go from key to key, and from bucket to bucket.
mod iterations
-- Inserts, by a slot that they take or that is in hand already.
mod inserts
-- Removes: the mark, and what the answer promises.
mod removes
-- Stores: what they find, and what they leave.
mod stores
-- The lemmas that other crates cite.
pub mod Lemmas
