pub mod Text
pub mod Number
pub mod Grammar
pub mod Scripts
