-- What is held by checked reads, and what was so at their moments.
pub mod KeptKnowledge
pub mod Held
pub mod Moments
pub mod Rollbacks
pub mod DecidedKeys
pub mod Reading
