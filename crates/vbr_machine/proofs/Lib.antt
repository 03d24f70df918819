-- Histories of sets and of maps, with no machine.
mod histories
-- Chronicles alone, without words, knowledge or passes: each lawful one is sound, and its calls are legal.
mod chronicles
-- The words of a world: what one step, and the opening, leave of them.
mod words
-- What a pass knows: what it has read, holds and owns, and where its checked links lead.
mod reads
-- The kinds of step: each accepted one adds what is lawful, and keeps the agreement of words, chronicle and knowledge.
mod steps
-- Runs: how they go on, and that every one is safe.
mod runs
-- Where each slot is along a run, and how many are where.
mod whereabouts
-- What runs say to the layers above: which keys were present at which moment, and which nodes have left.
mod moments
-- Progress: what disturbs a pass, how many nodes a walk can meet, and what pays for each disturbance.
mod progress
-- Worked runs, computed.
mod worked
-- Records that a program keeps beside the slots.
mod records
-- The lemmas that other crates cite.
pub mod Lemmas
