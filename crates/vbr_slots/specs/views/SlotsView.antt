-- What contracts see of a table, and its invariant.
use Rattle.std.specs.Prelude.{◌≡◌, ◌<◌, ◌≤◌, Bool}
use Rattle.vbr_machine.specs.Start.{Start, IsStart}
use Rattle.vbr_words.specs.Places.{words_in}
use Rattle.vbr_slots.specs.declared.slots.Slots.TheInside.{Inside}
use Rattle.vbr_slots.specs.runs.Rule.{opened_of, with_opened}
use Rattle.vbr_slots.specs.views.Views.{TableView}
use Rattle.vbr_slots.specs.declared.opening.TheConstants.{MAX_MANY_PASSES}

-- what it started with, which its rule goes by
abbrev pub start_in : {N : Type 0} → Inside N → Start
start_in t = with_opened t.opening.shape (opened_of t.table.shared.key.start)

-- what contracts see
abbrev pub table_of : {N : Type 0} → Inside N → TableView
table_of t = record { table = t.table.shared.table_id; start = start_in t; passes = t.opening.passes }

-- the table was made with this opening, by at least one pass and at most so many, has all words of the shape and no other slots, and its nodes have values if this is true
pub record IsBuilt {N : Type 0} (values : Bool) (t : Inside N) : Type 0 where
  pub start : IsStart (start_in t)
  pub some : 0 < t.opening.passes
  pub few : t.opening.passes ≤ MAX_MANY_PASSES
  pub key : t.table.shared.key ≡ record { start = start_in t; passes = t.opening.passes }
  pub words : t.table.shared.table_id.words ≡ words_in t.opening.shape
  pub slots : t.table.shared.table_id.slots ≡ 0
  pub kind : t.opening.shape.values ≡ values
