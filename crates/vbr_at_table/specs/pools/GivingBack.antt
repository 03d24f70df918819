-- What the return of a slot in hand leaves.
use Rattle.std.specs.Prelude.{◌≡◌, ℕ, [], ◌∷◌, ◌++◌, None}
use Rattle.vbr_slots.specs.views.Views.{PassView}
use Rattle.vbr_at_table.specs.hands.KeptSlots.{KeepsSlots}

-- the slot is at the end of the own pool, and the hand is empty; no step was made, and no slot is lost
pub record PutsBack (p q : PassView) (slot : ℕ) : Type 0 where
  pub trace : q.trace ≡ p.trace
  pub pool : q.pool ≡ p.pool ++ slot ∷ []
  pub hand : q.hand ≡ None
  pub kept : KeepsSlots p q
