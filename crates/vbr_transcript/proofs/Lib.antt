mod KnownBytes
mod MachineCalls
mod Filters
mod Outcomes
mod Explaining
mod Renewing
mod Merged
pub mod Lemmas
