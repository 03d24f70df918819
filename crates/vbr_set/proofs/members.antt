-- Members: how they are made of a set, and how they end it.
pub mod Mailboxes
pub mod Seats
pub mod Apart
pub mod Balances
pub mod Ends
pub mod MembersCalls
pub mod MembersAside
