-- The own pool and the hand of a pass.
pub mod Leaving
pub mod Moving
pub mod Pools
pub mod Passes
