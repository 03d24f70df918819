-- The run that a table is the state of: its rule, and how it opens, shows itself and ends.
pub mod TableStart
pub mod Rule
pub mod Running
pub mod Openings
pub mod Closing
pub mod Snapshots
