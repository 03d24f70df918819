-- A pass that has a table to itself.
use Rattle.std.specs.Prelude.{◌≡◌}
use Rattle.vbr_slots.specs.views.Views.{PassView, TableView, new_pass}

-- the table has no other pass, and this one is as it was opened
abbrev pub IsOnlyPass : TableView → PassView → Type 0
IsOnlyPass slots pass = (pass ≡ new_pass slots 0) × (slots.passes ≡ 1)
