-- How a table opens: what it starts with, and the passes that it gives.
use Rattle.std.specs.Prelude.{◌≡◌, ℕ, List}
use Rattle.vbr_machine.specs.Start.{Start}
use Rattle.vbr_slots.specs.views.Views.{PassView, TableView, new_passes}

-- the table starts so and has so many passes, which stand in the order of their numbers and have seen nothing
pub record OpensAs (start : Start) (count : ℕ) (table : TableView) (passes : List PassView) : Type 0 where
  pub start_is : table.start ≡ start
  pub count_is : table.passes ≡ count
  pub passes_are : passes ≡ new_passes table 0 count
