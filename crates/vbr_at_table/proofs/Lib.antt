-- The epoch: how it rises, what a pass reads of it, and where the pass advances it.
mod epochs
-- The slots of a pass: in its own pool, in its hand, and those that it has put aside.
mod own_slots
-- Steps one after another: how many there are, and what they change.
mod steps
-- Checked reads: what a pass knows by them, and what was so at their moments.
mod reads
-- Slots that return: each was unlinked, and is stamped first.
mod returns
-- Flags of the shared pool: how they are probed, won and lost.
mod flags
-- Exchanges of link words: what is written, and what the winner knows.
mod exchanges
-- Steps that answer an operation, and what they show of keys, values and records.
mod answers
-- The lemmas that other crates cite.
pub mod Lemmas
