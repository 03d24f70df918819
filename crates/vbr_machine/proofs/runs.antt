-- Runs: how they go on, and that every one is safe.
pub mod EveryRun
pub mod RunsGoOn
pub mod OwnEntries
pub mod RightExchanges
pub mod SafeRuns
pub mod RunMoments
pub mod ToldValues
