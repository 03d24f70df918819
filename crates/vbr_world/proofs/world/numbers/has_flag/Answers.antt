use Rattle.std.proofs.Common.{ℕ, ◌%◌, ◌==◌, ap}
use Rattle.std.proofs.lemmas.Nat.Bits.{shr_and_one}
use Rattle.vbr_words.specs.Flags.{has_flag}
use Rattle.vbr_world.proofs.world.numbers.has_flag.Goals as goal

pub returns : goal.returns
unfolding has_flag
returns c = ap (λ (d : ℕ). d == 1) (shr_and_one c.args.number (c.args.slot % 64))
