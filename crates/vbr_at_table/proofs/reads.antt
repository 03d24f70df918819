-- Checked reads: what a pass knows by them, and what was so at their moments.
pub mod Shown
pub mod PlacesInShape
pub mod KeptKnowledge
pub mod ReadSteps
pub mod Moments
pub mod CheckedReads
pub mod ReadCalls
