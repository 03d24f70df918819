pub mod Buckets
pub mod Following
pub mod Names
pub mod OnlyPass
pub mod Taking
