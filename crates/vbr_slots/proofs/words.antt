-- The words that a table keeps: how they are packed and laid out, and what a step makes of them.
pub mod Packed
pub mod WideReads
pub mod Worlds
pub mod LinkIndices
