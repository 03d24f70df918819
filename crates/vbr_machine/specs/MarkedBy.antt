-- Marked nodes that are still in lists, by the pass that marked them.
use Rattle.std.specs.Prelude.{ℕ, ◌+◌, ◌⊎◌, Bool, false, List, [], ◌∷◌}
use Rattle.vbr_machine.specs.Start.{Start}
use Rattle.vbr_machine.specs.Accounts.{incarnations_after, own_entries}
use Rattle.vbr_machine.specs.Chronicles.{Happening, Removes, Replaces, Entry}
use Rattle.vbr_machine.specs.Disturbances.{one_if}
use Rattle.vbr_machine.specs.Incarnations.{Incarnations}
use Rattle.vbr_machine.specs.Nodes.{is_marked}
use Rattle.vbr_machine.specs.Removals.{MarkedLeft, ReplacedLeft}
use Rattle.vbr_machine.specs.declared.event.Event.{Event}

-- whether an event removed a node, or replaced one, that is marked still, and so in its list
abbrev pub leaves_marked : Incarnations → Happening → Bool
leaves_marked a (Removes c) = is_marked (a.state c)
leaves_marked a (Replaces old c) = is_marked (a.state old)
leaves_marked a _ = false

-- how many of these events did
abbrev pub left_marked : Incarnations → List Entry → ℕ
left_marked a [] = 0
left_marked a (entry ∷ entries) = one_if (leaves_marked a entry.what) + left_marked a entries

-- how many of the nodes that a pass marked in a run are in their lists still
abbrev pub marked_by : Start → List Event → ℕ → ℕ
marked_by start run pass = left_marked (incarnations_after start run) (own_entries start run pass)

-- since a beginning of a run a pass has marked a node of this key, or replaced one, that has left all lists by the end
abbrev pub HasOneLeft : Start → List Event → List Event → ℕ → ℕ → Type 0
HasOneLeft start first run pass key = MarkedLeft start first run pass key ⊎ ReplacedLeft start first run pass key
