-- Slots that a pass takes, and that it gives back.
pub mod SharedPool
pub mod Taking
pub mod Refusals
pub mod GivingBack
pub mod GivingSlotsBack
pub mod Retiring
pub mod Pieces
pub mod Reserving
