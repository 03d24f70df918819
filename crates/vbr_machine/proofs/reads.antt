-- What a pass knows: what it has read, holds and owns, and where its checked links lead.
pub mod FoundReads
pub mod ValueReads
pub mod Searches
pub mod HeldReads
pub mod HeldSlots
pub mod HeldBuckets
pub mod RightReads
pub mod StandingLinks
pub mod Noted
pub mod OwnSlots
pub mod OwnedSlots
pub mod KnownReads
pub mod KnownAcceptance
pub mod MarkedWalks
pub mod NamedKeys
