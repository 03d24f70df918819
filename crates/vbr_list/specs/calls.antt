-- What every call promises: its answer, its refusals and its steps.
pub mod Budgets
pub mod Refusals
pub mod LoneReplies
pub mod Told
pub mod CallBounds
pub mod Words
pub mod Pieces
