-- The words of a table.
pub mod Words
pub mod WideWords
