-- A set of keys is the test that says which keys are in it.
use Rattle.std.specs.Prelude.{◌≡◌, ℕ, Bool, List, nat_eq}
use Rattle.std.specs.List.{list_any}
use Rattle.std.specs.List.Sorted.{IsStrictlyIncreasing}

-- a set of keys, as the test that says which are in it
abbrev pub Keys : Type 0
Keys = ℕ → Bool

-- the keys of a list
abbrev pub keys_of : List ℕ → Keys
keys_of listed key = list_any (nat_eq key) listed

-- the list has just the keys of the set, ascending
pub record AreKeysOf (listed : List ℕ) (keys : Keys) : Type 0 where
  pub ascending : IsStrictlyIncreasing listed
  pub same : (key : ℕ) → keys_of listed key ≡ keys key
