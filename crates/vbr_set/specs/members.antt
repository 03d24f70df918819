-- The members of a set: what they share, and how they end it.
pub mod Balances
pub mod Mailboxes
pub mod Sharing
pub mod MemberView
pub mod Seats
pub mod LettingGo
pub mod Ends
pub mod AllMembers
pub mod BalanceSums
pub mod Apart
