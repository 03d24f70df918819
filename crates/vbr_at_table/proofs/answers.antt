-- Steps that answer an operation, and what they tell of keys, values and records.
pub mod NoValues
pub mod AnsweringLoads
pub mod LookUpAnswers
pub mod OfKeys
pub mod Records
