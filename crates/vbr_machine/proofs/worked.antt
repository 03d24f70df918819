-- Worked runs, computed.
pub mod WorkedLists
pub mod WorkedChronicles
pub mod WorkedRefusals
pub mod WorkedLookUps
pub mod WorkedMaps
pub mod WorkedReplacements
pub mod WorkedSafety
pub mod WorkedWhereabouts
pub mod WorkedRaises
