-- Slots that a pass holds ahead of its calls.
pub mod HeldCalls
pub mod HeldMembers
pub mod HeldStores
pub mod HeldSlots
pub mod HeldRoom
