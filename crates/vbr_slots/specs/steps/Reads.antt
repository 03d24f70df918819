-- Loads in a row that end with a read of the epoch, which checks them if it stayed.
use Rattle.std.specs.Prelude.{ℕ}
use Rattle.vbr_machine.specs.declared.event.Step.{Step}
use Rattle.vbr_machine.specs.declared.event.Step.TheVariants.{ReadEpoch, LoadBirth, LoadLink}
use Rattle.vbr_words.specs.declared.place.At.TheVariants.{Slot}
use Rattle.vbr_slots.specs.views.Views.{PassView, Did, KeepsPool}

-- the pass made a load, and then read the epoch
pub record Reads (step : Step) (p q : PassView) (found epoch : ℕ) : Type 0 where
  pub between : PassView
  pub loaded : Did step p.trace between.trace found
  pub pool_loaded : KeepsPool p between
  pub read : Did ReadEpoch between.trace q.trace epoch
  pub pool_read : KeepsPool between q

-- the pass loaded the birth and the link word of a slot, and then read the epoch
pub record ReadsNode (slot : ℕ) (p q : PassView) (birth word epoch : ℕ) : Type 0 where
  pub first : PassView
  pub born : Did (LoadBirth slot) p.trace first.trace birth
  pub pool_born : KeepsPool p first
  pub reads : Reads (LoadLink (Slot slot)) first q word epoch
