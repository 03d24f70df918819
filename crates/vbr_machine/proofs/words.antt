-- The words of a world: what one step, and the opening, leave of them.
pub mod Puts
pub mod Branches
pub mod SlotFlags
pub mod WordsAfter
pub mod LoadsLeave
pub mod OpenedWorlds
