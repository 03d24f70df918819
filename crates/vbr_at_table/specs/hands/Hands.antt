-- Slots that are out of the pools: in the hand of a pass, or unlinked by it.
use Rattle.std.specs.Prelude.{◌≡◌, ℕ, Some}
use Rattle.vbr_machine.specs.Learning.{birth_in_hand}
use Rattle.vbr_slots.specs.views.Views.{PassView, knows}

-- a slot in a hand, and the birth of the incarnation there
pub record HandView : Type 0 where
  pub slot : ℕ
  pub birth : ℕ

-- a slot that its pass unlinked
pub record UnlinkedView : Type 0 where
  pub slot : ℕ

-- the hand is the one of the pass: its slot is in hand, and its birth is the one that the pass gave there
pub record IsHandOf (pass : PassView) (hand : HandView) : Type 0 where
  pub slot : pass.hand ≡ Some hand.slot
  pub birth : birth_in_hand ((knows pass.trace).own hand.slot) ≡ hand.birth
