pub mod runs
pub mod words
pub mod views
pub mod pools
pub mod steps
pub mod Messages
pub mod Tokens
