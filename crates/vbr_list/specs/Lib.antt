pub mod traversals
pub mod calls
pub mod updates
pub mod look_ups
pub mod named_entries
