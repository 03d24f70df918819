-- What a table starts with.
use Rattle.std.specs.Prelude.{ℕ}
use Rattle.vbr_machine.specs.Start.{Start}

-- what its set starts with, and how many passes it has
pub record TableStart : Type 0 where
  pub start : Start
  pub passes : ℕ
