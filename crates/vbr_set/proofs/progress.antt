-- Progress: what a refused call shows of others, and which budgets are enough.
pub mod Progress
pub mod StretchedRuns
pub mod AnsweredMeanwhile
pub mod AnsweredCalls
pub mod PaidGains
pub mod WonFlags
pub mod KnownBudgets
pub mod AnsweredWalks
pub mod AnsweredSteps
pub mod EnoughByShape
pub mod EnoughWithoutSlots
pub mod LeftMarked
