-- Seats: who has seen all of the run, and what stays so when they are opened, split and joined.
pub mod Members
pub mod Sightings
pub mod Seats
