-- The epoch: how it rises, what a pass reads of it, and where the pass advances it.
pub mod Epochs
pub mod Advancing
pub mod Needing
pub mod EpochReads
