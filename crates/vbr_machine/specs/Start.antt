-- What a set starts with: its shape, and the keys that it opens with, with their values if nodes have them.
use Rattle.std.specs.Prelude.{◌≡◌, ℕ, ◌≤◌, false, List, [], length, if◌then◌else◌}
use Rattle.std.specs.List.Sorted.{IsStrictlyIncreasing}
use Rattle.vbr_words.specs.Dimensions.{Dimensions, IsShape}

-- a shape, the keys of the first slots, and the value of each of them, in the order of the keys
pub record Start : Type 0 where
  pub shape : Dimensions
  pub keys : List ℕ
  pub payloads : List ℕ

-- there is a value for each key if nodes have values, and else none
abbrev pub ArePaired : Dimensions → List ℕ → List ℕ → Type 0
ArePaired shape keys values = length values ≡ (if shape.values then length keys else 0)

-- a set can start so: the shape is one, the keys ascend, each has a slot, and they are paired with their values
pub record IsStart (start : Start) : Type 0 where
  pub shape : IsShape start.shape
  pub ascending : IsStrictlyIncreasing start.keys
  pub few : length start.keys ≤ start.shape.slots
  pub paired : ArePaired start.shape start.keys start.payloads

-- this shape with these keys and values
abbrev pub start_with : Dimensions → List ℕ → List ℕ → Start
start_with shape keys values = record { shape = shape; keys = keys; payloads = values }

-- this shape without a key
abbrev pub empty_start : Dimensions → Start
empty_start shape = start_with shape [] []

-- a set of this shape with these keys
abbrev pub set_start : Dimensions → List ℕ → Start
set_start shape keys = start_with (record shape { values = false }) keys []
