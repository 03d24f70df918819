-- Iterations: cursors go from key to key, and from bucket to bucket.
pub mod Cursors
pub mod GoingOver
pub mod ComingBy
pub mod ListedLater
