-- Beside the proofs of which stamp a retired slot gets.
pub mod HeldThrough
