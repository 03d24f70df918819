-- Progress: what disturbs a pass, how many nodes a walk can meet, and what pays for each disturbance.
pub mod Calm
pub mod Since
pub mod MovedEpochs
pub mod GainedSlots
pub mod ListedNodes
pub mod ListedRuns
pub mod ListedGrowth
pub mod MetNodes
pub mod Visits
pub mod LeftNodes
pub mod OwnInserts
pub mod MarkedNodes
pub mod Progress
pub mod Retirements
pub mod Needs
pub mod NeededAdvances
pub mod MarkedBy
