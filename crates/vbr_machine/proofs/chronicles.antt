-- Chronicles alone, without words, knowledge or passes: each lawful one is sound, and its calls are legal.
pub mod Slots
pub mod SlotsAfter
pub mod Lists
pub mod ListsAfter
pub mod InsertedLists
pub mod UnlinkedLists
pub mod ReplacedLists
pub mod OpeningKeys
pub mod SoundAfter
pub mod ToldCalls
pub mod Growth
pub mod Shown
