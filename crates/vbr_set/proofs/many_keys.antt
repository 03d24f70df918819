-- Many keys by one call: batches, and going over all of them.
pub mod Listing
pub mod BatchCalls
pub mod InTurn
pub mod BatchesAside
