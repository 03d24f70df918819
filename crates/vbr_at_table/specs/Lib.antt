pub mod hands
pub mod costs
pub mod pools
pub mod Soundness
pub mod reads
pub mod answers
pub mod Messages
