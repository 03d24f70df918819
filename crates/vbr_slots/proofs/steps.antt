-- Steps at the table: what each asks and teaches, and what several in a row come to.
pub mod Keeps
pub mod Learning
pub mod Steps
pub mod Tried
pub mod Steppers
pub mod Calls
pub mod Counting
pub mod Alone
