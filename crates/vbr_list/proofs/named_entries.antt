-- Entries that are named by where they stand: whether they were in the map, and when.
pub mod EntryAnswers
pub mod Publishing
pub mod ReplacedEntries
pub mod OtherEntries
pub mod SeenEntries
pub mod RemovedEntries
