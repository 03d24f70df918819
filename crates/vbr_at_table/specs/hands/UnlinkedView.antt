-- What contracts see of an unlinked slot.
use Rattle.vbr_at_table.specs.declared.unlinked.Unlinked.TheInside.{Inside}
use Rattle.vbr_at_table.specs.hands.Hands.{UnlinkedView}

-- what contracts see
abbrev pub unlinked_of : Inside → UnlinkedView
unlinked_of u = record { slot = u.slot }
