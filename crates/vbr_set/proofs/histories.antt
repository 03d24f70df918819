-- What a pass has seen, as one legal history.
pub mod Histories
pub mod MapHistories
pub mod EntryCalls
pub mod Staying
pub mod CatchingUp
pub mod AnyCall
