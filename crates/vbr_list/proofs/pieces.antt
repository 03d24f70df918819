-- The pieces of a call, one after another: what they add up to, and what they keep.
pub mod WideWords
pub mod Going
pub mod KeptHands
pub mod Observing
pub mod CountedSteps
pub mod Tiring
pub mod LonePasses
pub mod Told
