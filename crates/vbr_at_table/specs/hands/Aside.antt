-- Slots that a pass has put aside: in hand by what it knows, and not in its hand.
use Rattle.std.specs.Prelude.{◌≡◌, ◌<◌, Option, Some, None}
use Rattle.vbr_machine.specs.Learning.{birth_in_hand}
use Rattle.vbr_slots.specs.views.Views.{PassView, knows}
use Rattle.vbr_at_table.specs.hands.KeptSlots.{IsAside}
use Rattle.vbr_at_table.specs.declared.aside.Aside.{Aside}

-- the slot is one of the shape that the pass has put aside, with the birth that it gave there
pub record IsPutAside (pass : PassView) (aside : Aside) : Type 0 where
  pub low : aside.slot < pass.trace.start.shape.slots
  pub is : IsAside pass aside.slot
  pub given : birth_in_hand ((knows pass.trace).own aside.slot) ≡ aside.birth

-- the same holds for the slot that is put aside, if there is one
abbrev pub HasAside : PassView → Option Aside → Type 0
HasAside pass None = Unit {0}
HasAside pass (Some aside) = IsPutAside pass aside

-- the pass made no step, and its own pool stays
pub record KeepsAllButHand (p q : PassView) : Type 0 where
  pub trace : q.trace ≡ p.trace
  pub pool : q.pool ≡ p.pool

-- the same, and its hand is then empty
pub record EmptiesHand (p q : PassView) : Type 0 where
  pub keeps : KeepsAllButHand p q
  pub hand : q.hand ≡ None
