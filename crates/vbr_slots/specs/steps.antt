-- Steps: what each asks and shows, and what several in a row add.
pub mod Calls
pub mod Asked
pub mod Expected
pub mod OwnSlots
pub mod Reads
pub mod Stepping
pub mod LookUpStep
pub mod Alone
pub mod PassLaw
pub mod AtTables
pub mod Lending
