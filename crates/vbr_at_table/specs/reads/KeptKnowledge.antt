-- What stays of what a pass knows and has.
use Rattle.std.specs.Prelude.{◌≡◌, ◌≢◌, ℕ, Some}
use Rattle.vbr_machine.specs.Acceptance.{IsUnlinked}
use Rattle.vbr_machine.specs.Knowledge.{Know}
use Rattle.vbr_machine.specs.Membership.{Knows}
use Rattle.vbr_machine.specs.declared.knowledge.Read.{Read}
use Rattle.vbr_slots.specs.views.Views.{PassView, knows}
use Rattle.vbr_at_table.specs.costs.FlagsInNeed.{WinsNoFlag}
use Rattle.vbr_at_table.specs.costs.StepKinds.{advances}
use Rattle.vbr_at_table.specs.hands.KeptSlots.{GoesInTurn, HasFree, KeepsAside, PoolGrows, SharesWhereFull, TriesNoFlag}

-- what was known is known, in the same epoch
pub record Keeps (know later : Know) : Type 0 where
  pub epoch : later.epoch ≡ know.epoch
  pub reads : (read : Read) → Knows know read → Knows later read

-- the pool and the hand of a pass stay, and so does what it knows of the slot in its hand
pub record KeepsOwn (p q : PassView) : Type 0 where
  pub pool : q.pool ≡ p.pool
  pub hand : q.hand ≡ p.hand
  pub in_hand : (s : ℕ) → p.hand ≡ Some s → (knows q.trace).own s ≡ (knows p.trace).own s

-- the pass unlinked this slot and has it to stamp, and else did what a call does that takes no slot: no other slot is lost, those put aside stay so, and it unlinked in turn
pub record KeepsUnlinked (slot : ℕ) (p q : PassView) : Type 0 where
  pub count : advances q.trace ≡ advances p.trace
  pub free : HasFree p q
  pub others : (other : ℕ) → other ≢ slot → IsUnlinked ((knows q.trace).own other) → IsUnlinked ((knows p.trace).own other)
  pub turn : GoesInTurn p.trace q.trace
  pub aside : KeepsAside p q
  pub grows : PoolGrows p q
  pub shared : SharesWhereFull 1 p q
  pub tries : TriesNoFlag p q
  pub wins : WinsNoFlag p.trace q.trace
