-- Stores: what they find, and what they leave.
pub mod Stores
pub mod Wants
pub mod Settled
pub mod SettledSoon
pub mod LateSearches
pub mod StoredValues
pub mod HeldStores
