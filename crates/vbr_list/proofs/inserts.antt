-- Inserts, by a slot that they take or that is in hand already.
pub mod Preparing
pub mod Sufficing
pub mod Linking
pub mod HeldCosts
pub mod HeldInserts
pub mod HeldSlots
