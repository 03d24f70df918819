-- Look-ups, gets, and going over all keys.
pub mod Valuing
pub mod Telling
pub mod LookUpPieces
pub mod Next
pub mod Cursors
pub mod Seeking
