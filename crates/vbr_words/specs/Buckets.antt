-- Which bucket a key belongs to.
use Rattle.std.specs.Prelude.{◌≡◌, ℕ, ◌+◌, ◌*◌, ◌/◌, ◌%◌, ◌^◌, Option, None, Some}
use Rattle.vbr_words.specs.Dimensions.{Dimensions}
use Rattle.vbr_words.specs.declared.shape.TheConstants.{MIXER}

-- what a seed has keys multiplied by: an odd number, and each odd number below 2^64 by some seed
abbrev pub multiplier_of : ℕ → ℕ
multiplier_of seed = (2 * seed + 1) * MIXER % 2 ^ 64

-- if there is a multiplier, it is odd
abbrev pub IsOdd : Option ℕ → Type 0
IsOdd None = Unit {0}
IsOdd (Some multiplier) = multiplier % 2 ≡ 1

-- a key's bits mixed: the upper half of its product with an odd number, modulo 2^64 (multiplicative hashing, Knuth 1973)
abbrev pub mixed : ℕ → ℕ → ℕ
mixed multiplier key = key * multiplier % 2 ^ 64 / 2 ^ 32

-- the bucket among so many: the key modulo their number; if keys are spread, the part of the buckets that its mixed bits are of 2^32
abbrev pub bucket_among : ℕ → Option ℕ → ℕ → ℕ
bucket_among buckets None key = key % buckets
bucket_among buckets (Some multiplier) key = mixed multiplier key * buckets / 2 ^ 32

-- the bucket of a key in a set of this shape
unfoldable pub bucket_of : Dimensions → ℕ → ℕ
bucket_of shape key = bucket_among shape.buckets shape.spread key
