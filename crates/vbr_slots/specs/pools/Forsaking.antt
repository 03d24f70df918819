-- What is left of a pass that gives its slots up.
use Rattle.std.specs.Prelude.{◌≡◌, [], None}
use Rattle.vbr_slots.specs.views.Views.{PassView}

-- the pass has seen and knows what it had, and has no slot in its pool or its hand
pub record Forsakes (p q : PassView) : Type 0 where
  pub trace : q.trace ≡ p.trace
  pub pool : q.pool ≡ []
  pub hand : q.hand ≡ None
