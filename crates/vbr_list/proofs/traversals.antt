-- Traversals of a bucket: from place to place, whatever others do meanwhile.
pub mod Traversals
pub mod Reaching
pub mod Moments
pub mod Clearing
pub mod Sweeping
pub mod Disturbing
pub mod Visits
pub mod LostAnswers
pub mod Searching
pub mod LostTraversals
