-- What contracts see of a pass, and its invariant.
use Rattle.std.specs.Prelude.{◌≡◌}
use Rattle.vbr_slots.specs.declared.pass.Pass.TheInside.{Inside}
use Rattle.vbr_slots.specs.views.Views.{PassView, counted_steps, steps_of}

-- what contracts see: what its stepper shows
abbrev pub lent_of : Inside → PassView
lent_of p = p.stepper

-- the count is that of the steps which the pass has made
pub record IsExact (p : Inside) : Type 0 where
  pub steps : p.steps ≡ counted_steps (steps_of p.stepper.trace)
