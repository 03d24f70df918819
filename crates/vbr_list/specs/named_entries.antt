-- Calls that name an entry by where it stands.
pub mod Entries
pub mod OtherEntries
pub mod RemovingExactly
