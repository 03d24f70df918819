-- What contracts see of a token, and its invariant.
use Rattle.std.specs.Prelude.{◌≡◌, [], ◌∷◌}
use Rattle.vbr_slots.specs.declared.seen.Seen.TheInside.{Inside}
use Rattle.vbr_slots.specs.runs.Rule.{witness, nobody, first_opened, first_seen}
use Rattle.vbr_slots.specs.Tokens.{SeenView}

-- what contracts see
abbrev pub token_of : Inside → SeenView
token_of t = record { table = t.seat.table_id; seen = first_seen t.seat.me.0 }

-- its seat has one witness, under the number of nobody, and no slot of the table
pub record IsToken (t : Inside) : Type 0 where
  pub alone : t.seat.me ≡ (witness (first_opened t.seat.me.0) nobody (first_seen t.seat.me.0) ∷ [], [])
