-- Flags of the shared pool: how they are probed, won and lost.
pub mod FlagsInNeed
pub mod Gained
pub mod Probing
pub mod Winning
pub mod ReservedTries
pub mod Reserves
pub mod TopUps
