pub mod Worked
pub mod Valued
