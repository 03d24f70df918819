-- The link words that a table keeps, as the numbers by which steps are named.
use Rattle.std.specs.Prelude.{ℕ}
use Rattle.vbr_words.specs.Packing.{slot_bits, unpacked}
use Rattle.vbr_words.specs.declared.nodes.Nodes.{Ghosts}
use Rattle.vbr_slots.specs.views.Views.{TableView}
use Rattle.vbr_slots.specs.declared.at_table.AtTable.{AtTable}

-- the number of the link word that a table keeps so
abbrev pub wide_in : TableView → ℕ → ℕ
wide_in table kept = unpacked (slot_bits table.start.shape.slots) kept

-- the number of the link word that the table of a pass keeps so
abbrev pub wide_at : {N : Type 0} {kind : Ghosts N} → AtTable N kind → ℕ → ℕ
wide_at at kept = wide_in at.slots.now kept
