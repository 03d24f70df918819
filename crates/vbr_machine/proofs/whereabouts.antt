-- Where each slot is along a run, and how many are where.
pub mod PlacedSlots
pub mod Whereabouts
pub mod SlotsAddUp
pub mod UnlinkedInTurn
pub mod OutsidePool
pub mod UnretiredSlots
