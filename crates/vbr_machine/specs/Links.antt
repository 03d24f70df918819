-- Link words as the machine makes and compares them.
use Rattle.std.specs.Prelude.{ℕ, max, Bool, true, false, not, ◌==◌, ◌&&◌, Option, Some, None}
use Rattle.vbr_words.specs.declared.link.Link.{Link}

-- the link of a slot that no link was stored in yet
abbrev pub opening_link : Link
opening_link = record { slot = None; mark = true; version = 0 }

-- the unmarked link to a slot or to none; its version is the greater birth of its holder and of what it names
abbrev pub link_to : Option ℕ → ℕ → ℕ → Link
link_to slot holder_birth named_birth = record { slot = slot; mark = false; version = max holder_birth named_birth }

-- the same link, marked
abbrev pub marked : Link → Link
marked link = record { slot = link.slot; mark = true; version = link.version }

-- whether two links name the same
abbrev pub same_slot : Option ℕ → Option ℕ → Bool
same_slot None None = true
same_slot (Some s) (Some t) = s == t
same_slot _ _ = false

-- whether two marks are the same
abbrev pub same_mark : Bool → Bool → Bool
same_mark true mark = mark
same_mark false mark = not mark

-- whether two links are the same
abbrev pub same_link : Link → Link → Bool
same_link a b = same_slot a.slot b.slot && (same_mark a.mark b.mark && a.version == b.version)
