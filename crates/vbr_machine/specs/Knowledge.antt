-- What a pass knows, and what it can find in that.
use Rattle.std.specs.Prelude.{ℕ, Bool, true, false, ◌==◌, ◌&&◌, List, [], ◌∷◌, Option, Some, None, if◌then◌else◌}
use Rattle.vbr_words.specs.declared.link.Link.{Link}
use Rattle.vbr_words.specs.declared.place.At.{At}
use Rattle.vbr_words.specs.declared.place.At.TheVariants.{Head, Slot}
use Rattle.vbr_machine.specs.declared.knowledge.Read.{Read}
use Rattle.vbr_machine.specs.declared.knowledge.Read.TheVariants.{LinkAt, BirthOf, KeyOf, ValueOf}
use Rattle.vbr_machine.specs.declared.knowledge.Holding.{Holding}
use Rattle.vbr_machine.specs.Links.{same_link}

-- what a pass knows: the epoch that it read last, its reads since then (pending) and those that an unmoved epoch has confirmed (checked), and what it knows of each slot that it owns
pub record Know : Type 0 where
  pub epoch : ℕ
  pub pending : List Read
  pub checked : List Read
  pub own : ℕ → Option Holding

-- whether two places of links are the same
abbrev pub same_at : At → At → Bool
same_at (Head b) (Head c) = b == c
same_at (Slot s) (Slot t) = s == t
same_at _ _ = false

-- whether a link is among the reads at a place
abbrev pub knows_link : List Read → At → Link → Bool
knows_link [] place link = false
knows_link (LinkAt here found ∷ reads) place link = if (same_at here place && same_link found link) then true else knows_link reads place link
knows_link (_ ∷ reads) place link = knows_link reads place link

-- the first birth of a slot among the reads
abbrev pub birth_in : List Read → ℕ → Option ℕ
birth_in [] s = None
birth_in (BirthOf slot birth ∷ reads) s = if slot == s then Some birth else birth_in reads s
birth_in (_ ∷ reads) s = birth_in reads s

-- the first key of a slot among the reads
abbrev pub key_in : List Read → ℕ → Option ℕ
key_in [] s = None
key_in (KeyOf slot key ∷ reads) s = if slot == s then Some key else key_in reads s
key_in (_ ∷ reads) s = key_in reads s

-- the first value of a slot among the reads
abbrev pub value_in : List Read → ℕ → Option ℕ
value_in [] s = None
value_in (ValueOf slot value ∷ reads) s = if slot == s then Some value else value_in reads s
value_in (_ ∷ reads) s = value_in reads s

-- the first marked link of a slot among the reads
abbrev pub marked_in : List Read → ℕ → Option Link
marked_in [] s = None
marked_in (LinkAt place link ∷ reads) s = if (same_at place (Slot s) && link.mark) then Some link else marked_in reads s
marked_in (_ ∷ reads) s = marked_in reads s

-- whether a link names a slot
abbrev pub names : Option ℕ → ℕ → Bool
names None s = false
names (Some n) s = n == s

-- whether a slot is held: a link among the reads names it
abbrev pub holds : List Read → ℕ → Bool
holds [] s = false
holds (LinkAt place link ∷ reads) s = if names link.slot s then true else holds reads s
holds (_ ∷ reads) s = holds reads s

-- whether a place is held: a head always is
abbrev pub holds_at : List Read → At → Bool
holds_at reads (Head b) = true
holds_at reads (Slot s) = holds reads s

-- the birth at a place, if it is known: 0 for a head
abbrev pub birth_at : List Read → At → Option ℕ
birth_at reads (Head b) = Some 0
birth_at reads (Slot s) = birth_in reads s

-- the birth of what a link names, if it is known: 0 for none
abbrev pub birth_of : List Read → Option ℕ → Option ℕ
birth_of reads None = Some 0
birth_of reads (Some s) = birth_in reads s
