mod Buckets
mod FlagWords
mod Indices
mod LinkWords
mod Layouts
mod Packing
mod Powers
pub mod Lemmas
