-- The own pool of a pass, and what it gives up of it.
pub mod Pools
pub mod Forsaking
pub mod Tried
