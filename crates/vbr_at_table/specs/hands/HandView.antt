-- What contracts see of a hand.
use Rattle.vbr_at_table.specs.declared.hand.Hand.TheInside.{Inside}
use Rattle.vbr_at_table.specs.hands.Hands.{HandView}

-- what contracts see
abbrev pub hand_of : Inside → HandView
hand_of h = record { slot = h.slot; birth = h.birth }
