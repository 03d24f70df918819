-- A table that a row of a map plays on.
use Rattle.std.specs.Prelude.{◌≡◌, ◌<◌, true}
use Rattle.vbr_slots.specs.views.Views.{TableView}

-- a table has buckets, whose lists are of entries
abbrev pub HasEntryLists : TableView → Type 0
HasEntryLists slots = (0 < slots.start.shape.buckets) × (slots.start.shape.values ≡ true)
