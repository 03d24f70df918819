-- The steps of a call, counted against its budget.
use Rattle.std.specs.Prelude.{◌≡◌, ℕ, ◌+◌, ◌≤◌}
use Rattle.vbr_slots.specs.steps.Calls.{Took}
use Rattle.vbr_slots.specs.views.Views.{Trace}

-- the call made no more steps than its budget
pub record TookWithin (p q : Trace) (budget : ℕ) : Type 0 where
  pub steps : ℕ
  pub within : steps ≤ budget
  pub took : Took p q steps

-- the steps that were made, added to those used before, are those used since
pub record CountsSteps (p q : Trace) (before since : ℕ) : Type 0 where
  pub steps : ℕ
  pub sum : since ≡ before + steps
  pub took : Took p q steps
