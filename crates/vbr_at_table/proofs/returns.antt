-- Slots that return: each was unlinked, and is stamped first.
pub mod AloneRetirement
pub mod Retirement
pub mod InTurn
pub mod NoneUnlinked
