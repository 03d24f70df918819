-- Beside the proofs of calls on a running table.
mod OnePass
pub mod OwnedSlots
pub mod Taking
