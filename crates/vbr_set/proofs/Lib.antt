-- What a pass has seen, as one legal history.
mod histories
-- What a report lists of the nodes that the words show.
mod reports
-- Members: how they are made of a set, and how they end it.
mod members
-- Where the slots of a set are, and what is left for an insert.
mod whereabouts
-- Sums: of the keys, of the balances of members, and over all passes.
mod sums
-- Many keys by one call: batches, and going over all of them.
mod many_keys
-- Progress: what a refused call shows of others, and which budgets are enough.
mod progress
-- The lemmas that other crates cite.
pub mod Lemmas
-- Slots that a pass holds ahead of its calls.
mod held_slots
