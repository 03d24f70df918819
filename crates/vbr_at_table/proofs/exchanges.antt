-- Exchanges of link words: what is written, and what the winner knows.
pub mod WonExchanges
pub mod WrittenLinks
pub mod UnlinkedLinks
pub mod MarkedLinks
pub mod Unlinks
pub mod AloneExchanges
pub mod Filled
pub mod Storing
pub mod ExchangeCalls
pub mod Replacements
