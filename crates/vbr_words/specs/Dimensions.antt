-- The shape of a set, as contracts see it.
use Rattle.std.specs.Prelude.{ℕ, ◌-◌, ◌^◌, ◌<◌, ◌≤◌, Bool, Option}
use Rattle.vbr_words.specs.declared.link.TheConstants.{MAX_SLOTS, MAX_VERSION}
use Rattle.vbr_words.specs.declared.shape.TheConstants.{MAX_SPREAD_BUCKETS}
use Rattle.vbr_words.specs.Packing.{slot_bits}

-- the number of slots, the number of buckets, what keys are multiplied by if they are spread over them, the last epoch, and whether each node has a value
pub record Dimensions : Type 0 where
  pub slots : ℕ
  pub buckets : ℕ
  pub spread : Option ℕ
  pub last_epoch : ℕ
  pub values : Bool

-- none of the numbers is 0, and none is above the greatest that words have room for; a word has room for the last epoch as a version, beside a slot and the mark
pub record IsShape (shape : Dimensions) : Type 0 where
  pub some_slot : 0 < shape.slots
  pub slots : shape.slots ≤ MAX_SLOTS
  pub some_bucket : 0 < shape.buckets
  pub buckets : shape.buckets ≤ MAX_SPREAD_BUCKETS
  pub some_epoch : 0 < shape.last_epoch
  pub last_epoch : shape.last_epoch ≤ MAX_VERSION
  pub room : shape.last_epoch < 2 ^ (63 - slot_bits shape.slots)
