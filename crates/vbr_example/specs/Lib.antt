pub mod Claims
pub mod Telling
pub mod Sweeping
