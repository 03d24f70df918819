-- Slots out of the pools: in a hand, unlinked, or put aside.
pub mod Hands
pub mod HandView
pub mod UnlinkedView
pub mod KeptSlots
pub mod Aside
