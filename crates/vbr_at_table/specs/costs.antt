-- Steps, and what they cost.
pub mod WithinBudget
pub mod StepKinds
pub mod Gained
pub mod FlagsInNeed
pub mod Advances
pub mod Budgets
pub mod StepCosts
