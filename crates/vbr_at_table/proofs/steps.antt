-- Steps one after another: how many there are, and what they change.
pub mod SaidWords
pub mod Unchanged
pub mod Counting
pub mod StepCounts
pub mod Accepted
pub mod MadeCalls
