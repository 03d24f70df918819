mod MarkedSearches
mod ReachedWorlds
mod KeptLists
mod KeptPasses
mod KeptWorlds
mod Learned
mod MadeSteps
mod Replayed
