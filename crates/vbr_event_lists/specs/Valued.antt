-- A worked list of events on nodes that have values, made from one on nodes that have none.
use Rattle.std.specs.Prelude.{ℕ, ◌+◌, ◌-◌, ◌^◌, min, List, [], ◌∷◌, Option, Some, None, true}
use Rattle.vbr_machine.specs.Start.{Start}
use Rattle.vbr_machine.specs.declared.event.Effect.{Effect}
use Rattle.vbr_machine.specs.declared.event.Effect.TheVariants.{Done}
use Rattle.vbr_machine.specs.declared.event.Step.{Step}
use Rattle.vbr_machine.specs.declared.event.Step.TheVariants.{StoreKey, StoreValue}

-- the row that stores a value after a step that stores a key: 100 more than the key, up to the greatest number
abbrev pub value_row : ℕ → Step → Option (ℕ × Step × Effect)
value_row pass (StoreKey s key) = Some (pass, StoreValue s (min (key + 100) (2 ^ 64 - 1)), Done)
value_row pass _ = None

-- rows after one more, if there is one
abbrev pub after_row : Option (ℕ × Step × Effect) → List (ℕ × Step × Effect) → List (ℕ × Step × Effect)
after_row None rows = rows
after_row (Some row) rows = row ∷ rows

-- the rows of a list, in which each store of a key is followed by that of its value
abbrev pub with_values : List (ℕ × Step × Effect) → List (ℕ × Step × Effect)
with_values [] = []
with_values (row ∷ rows) = row ∷ after_row (value_row row.0 row.1) (with_values rows)

-- the start of the same shape and keys whose nodes have values
abbrev pub valued : Start → Start
valued start = record start { shape = record start.shape { values = true } }
