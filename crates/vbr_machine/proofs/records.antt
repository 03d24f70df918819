-- Records beside the slots: an entry keeps its slot while its birth stands, and who has a slot in hand.
pub mod Entries
pub mod Hands
pub mod KeptHands
pub mod Published
pub mod Acts
