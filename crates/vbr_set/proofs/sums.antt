-- Sums: of the keys, of the balances of members, and over all passes.
pub mod CountedKeys
pub mod KeyCounts
pub mod BalanceSums
pub mod AddedBalances
pub mod PassSums
