-- Traversals of the list of a bucket.
pub mod Places
pub mod Disturbed
pub mod Leaving
pub mod Found
pub mod Searching
pub mod Visiting
pub mod Traversing
pub mod Helping
