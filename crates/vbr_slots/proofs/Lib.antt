-- The words that a table keeps: how they are packed and laid out, and what a step makes of them.
mod words
-- Seats: who has seen all of the run, and what stays so when they are opened, split and joined.
mod seats
-- Steps at the table: what each asks and teaches, and what several in a row come to.
mod steps
-- The own pool and the hand of a pass.
mod pools
-- The run that a table is the state of: at its opening, at a snapshot, and at its end.
mod runs
-- The lemmas that other crates cite.
pub mod Lemmas
