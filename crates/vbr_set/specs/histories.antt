-- What calls leave of the history, of one pass and of several.
pub mod Histories
pub mod Answers
pub mod Meetings
pub mod Tokens
