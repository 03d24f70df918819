-- Where the slots of a set are, and what is left for an insert.
pub mod HavingSlots
pub mod RenewalRoom
pub mod RoomLeft
pub mod RoomOfOthers
pub mod TakenUp
