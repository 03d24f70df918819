-- What a report says, of a set and of a map.
pub mod Contents
pub mod Kinds
pub mod KindLaws
pub mod Closing
pub mod EntrySlots
pub mod Walking
