-- The run that a table is the state of: at its opening, at a snapshot, and at its end.
pub mod Openings
pub mod Closings
pub mod Snapshots
pub mod Halting
pub mod Running
