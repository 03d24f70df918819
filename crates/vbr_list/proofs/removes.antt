-- Removes: the mark, and what the answer promises.
pub mod Expected
pub mod Marks
pub mod Marking
pub mod AnsweredRemoves
