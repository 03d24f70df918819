-- The slots of a pass: in its own pool, in its hand, and those that it has put aside.
pub mod PoolLists
pub mod SlotsAside
pub mod PuttingAside
pub mod Scanning
pub mod Births
pub mod Choosing
pub mod Takings
pub mod HadSlots
pub mod KeptSlots
pub mod GivingSlotsBack
