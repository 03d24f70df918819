-- What a report lists of the nodes that the words show.
pub mod ShownNodes
pub mod Walks
pub mod Gathering
pub mod LinkedKeys
pub mod LinkedEntries
pub mod EntrySlots
pub mod Closings
