-- Progress of one call, and of the whole set.
pub mod Stretches
pub mod Progressing
pub mod Winning
pub mod Callers
pub mod LeftMarked
pub mod WalkProgress
