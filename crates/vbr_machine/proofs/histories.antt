-- Histories of sets and of maps, with no machine.
pub mod Histories
pub mod AnsweredCalls
pub mod PlainSets
pub mod PlainMaps
pub mod MapHistories
pub mod OpenedMaps
