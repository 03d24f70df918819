-- Look-ups and gets: traversals of loads alone, and values that are read.
pub mod Passing
pub mod LostLooks
pub mod Sights
pub mod Following
pub mod ValueReads
pub mod ReadFirst
pub mod FoundValues
