use Rattle.std.proofs.Common.{◌≡◌, ◌<◌, ◌^◌, drop}
use Rattle.vbr_script.specs.Number.{number_below}
use Rattle.vbr_script.proofs.Numerals.{number_after}
use Rattle.vbr_script.proofs.number.number.Given as goal

-- what the bytes still to come make of the value so far is the number that the token spells
abbrev pub invariant-loop-byte : goal.invariant-loop-byte
invariant-loop-byte l = record {
  spells : number_after (2 ^ 64) l.value (drop l.byte-index l.token) ≡ number_below (2 ^ 64) l.token;
  small : l.value < 2 ^ 64;
}
