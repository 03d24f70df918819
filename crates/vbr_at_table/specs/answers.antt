-- Calls that answer an operation, or exchange a link word.
pub mod WonAlone
pub mod Answering
pub mod Marks
pub mod Exchanges
pub mod Values
pub mod Replacing
pub mod Records
