-- Calls that change the list: inserts, removes and stores.
pub mod Wanted
pub mod Outcomes
pub mod NewValues
pub mod Expecting
pub mod Inserting
pub mod Preparing
pub mod Removing
pub mod Storing
pub mod Settling
pub mod Replacing
pub mod Holding
pub mod HeldStores
pub mod Updating
