-- What a write to the kept lists makes of the world that they stand for.
use Rattle.std.specs.Prelude.{◌≡◌, ℕ, ◌+◌, length}
use Rattle.vbr_words.specs.declared.link.Link.{Link}
use Rattle.vbr_words.specs.declared.place.At.{At}
use Rattle.vbr_machine.specs.Machine.{World, counted, with_link_at}
use Rattle.vbr_machine.specs.Put.{put}
use Rattle.vbr_machine.specs.declared.knowledge.SlotPlace.{SlotPlace}
use Rattle.vbr_world.specs.WorldInLists.{KeptWorld, world_of}

-- the world is changed so, and the start and the number of passes stay
pub record Writes (old new : KeptWorld) (change : World → World) : Type 0 where
  pub written : world_of new ≡ change (world_of old)
  pub start : new.start ≡ old.start
  pub passes : length new.passes ≡ length old.passes

-- the epoch is advanced by one
abbrev pub with_next_epoch : World → World
with_next_epoch w = record w { epoch = w.epoch + 1 }

-- a slot has this stamp
abbrev pub with_stamp_of : ℕ → ℕ → World → World
with_stamp_of s stamp w = record w { stamp = put w.stamp s stamp }

-- a slot has this key
abbrev pub with_key_of : ℕ → ℕ → World → World
with_key_of s key w = record w { key = put w.key s key }

-- a slot has this value
abbrev pub with_value_of : ℕ → ℕ → World → World
with_value_of s value w = record w { value = put w.value s value }

-- a slot is here
abbrev pub with_place_of : ℕ → SlotPlace → World → World
with_place_of s place w = record w { place = put w.place s place }

-- a slot has this birth, and one more is counted
abbrev pub with_birth_of : ℕ → ℕ → World → World
with_birth_of s birth w = record w { birth = put w.birth s birth; births = counted w.births }

-- a place has this link
abbrev pub with_link_of : At → Link → World → World
with_link_of place link w = with_link_at w place link

-- a place has this link, and a slot is here
abbrev pub with_link_and_place : At → Link → ℕ → SlotPlace → World → World
with_link_and_place holder link s place w = record (with_link_at w holder link) { place = put w.place s place }
