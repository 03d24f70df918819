-- Where the slots of a set are.
pub mod Room
pub mod HeldRoom
