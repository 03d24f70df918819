-- What an opening of a kept world returns.
use Rattle.std.specs.Prelude.{◌≡◌, ℕ, length}
use Rattle.vbr_machine.specs.Start.{Start}
use Rattle.vbr_machine.specs.Machine.{knows_nothing, opening}
use Rattle.vbr_machine.specs.Making.{opening_from}
use Rattle.vbr_world.specs.WorldInLists.{KeptPass, KeptWorld, know_of, world_of}

-- the world is the one that starts so, with so many passes
pub record IsOpening (opened : Start) (count : ℕ) (kept : KeptWorld) : Type 0 where
  pub world : world_of kept ≡ opening opened
  pub start : kept.start ≡ opened
  pub passes : length kept.passes ≡ count

-- the world is the one that starts so, with so many passes, before any of its keys is linked
pub record IsBare (opened : Start) (count : ℕ) (kept : KeptWorld) : Type 0 where
  pub world : world_of kept ≡ opening_from opened (length opened.keys)
  pub start : kept.start ≡ opened
  pub passes : length kept.passes ≡ count

-- a pass knows nothing yet, and has so many slots in its list
abbrev pub IsNewPass : ℕ → KeptPass → Type 0
IsNewPass slots pass = (know_of pass ≡ knows_nothing) × (length pass.own ≡ slots)
