-- Beside the proofs of stores that lose their exchange.
mod Kept
