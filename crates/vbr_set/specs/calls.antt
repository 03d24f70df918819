-- What calls promise.
pub mod MapCalls
pub mod Members
pub mod AtSets
pub mod Batches
pub mod Iterating
pub mod SetRefView
pub mod RecordCalls
pub mod RemovingExactly
pub mod HeldStores
