-- The notes of a pass: what it has read, with the incarnations that its reads speak of, which the pass itself can't name.
use Rattle.std.specs.Prelude.{◌≡◌, ℕ, Bool, true, ◌==◌, List, [], ◌∷◌, ◌++◌, map, Option, Some, None, if◌then◌else◌, ◌⊎◌}
use Rattle.vbr_machine.specs.Start.{Start}
use Rattle.vbr_words.specs.Words.{link_of}
use Rattle.vbr_words.specs.declared.place.At.{At}
use Rattle.vbr_words.specs.declared.place.At.TheVariants.{Head, Slot}
use Rattle.vbr_machine.specs.Learning.{succeeds, read_loaded, reads_won}
use Rattle.vbr_machine.specs.Machine.{World, found}
use Rattle.vbr_machine.specs.Incarnations.{Incarnations, last_in}
use Rattle.vbr_machine.specs.Images.{birth_shown, key_shown, value_shown, link_shown_at}
use Rattle.vbr_machine.specs.Chronicles.{Before, AtHead, AtNode, next_of}
use Rattle.vbr_machine.specs.declared.event.Step.{Step}
use Rattle.vbr_machine.specs.declared.event.Step.TheVariants.{ReadEpoch, Publish, Mark, Replace, Unlink}
use Rattle.vbr_machine.specs.declared.knowledge.Read.{Read}
use Rattle.vbr_machine.specs.declared.knowledge.Read.TheVariants.{LinkAt, BirthOf, KeyOf, ValueOf}

-- a read of a pass; what the incarnations showed there at the step that gave it; the last incarnation of its slot at that step, none for a head; and, for a link, the incarnation that it named, which is the successor at that step
pub record Note : Type 0 where
  pub read : Read
  pub shown : Read
  pub of : Option ℕ
  pub names : Option ℕ

-- the notes of a pass: of its pending and of its checked reads, in their order
pub record Notes : Type 0 where
  pub pending : List Note
  pub checked : List Note

-- no notes yet
abbrev pub no_notes : Notes
no_notes = record { pending = []; checked = [] }

-- ---- taking notes

-- what stands at a place: the head, or the last incarnation of the slot
abbrev pub before_at : Incarnations → At → Before
before_at a (Head b) = AtHead b
before_at a (Slot s) = AtNode (last_in a s)

-- the last incarnation at a place, none at a head
abbrev pub last_at : Incarnations → At → Option ℕ
last_at a (Head b) = None
last_at a (Slot s) = a.last s

-- what the incarnations show where a read was made
abbrev pub shown_at : Incarnations → Read → Read
shown_at a (LinkAt place link) = LinkAt place (link_shown_at a place)
shown_at a (BirthOf s birth) = BirthOf s (birth_shown a (a.last s))
shown_at a (KeyOf s key) = KeyOf s (key_shown a (a.last s))
shown_at a (ValueOf s value) = ValueOf s (value_shown a (a.last s))

-- the last incarnation of the slot that a read is of
abbrev pub last_of : Incarnations → Read → Option ℕ
last_of a (LinkAt place link) = last_at a place
last_of a (BirthOf s birth) = a.last s
last_of a (KeyOf s key) = a.last s
last_of a (ValueOf s value) = a.last s

-- the incarnation that the link names, if the read is one of a link
abbrev pub named_by : Incarnations → Read → Option ℕ
named_by a (LinkAt place link) = next_of a (before_at a place)
named_by a _ = None

-- the note of a read, from the incarnations after the step that gave it
abbrev pub note_of : Incarnations → Read → Note
note_of a read = record { read = read; shown = shown_at a read; of = last_of a read; names = named_by a read }

-- the notes with a load's read, if it made one
abbrev pub with_read : Incarnations → Notes → Option Read → Notes
with_read a notes None = notes
with_read a notes (Some read) = record notes { pending = notes.pending ++ note_of a read ∷ [] }

-- the notes with the reads of a won exchange
abbrev pub with_won : Incarnations → Notes → List Read → Notes
with_won a notes reads = record notes { checked = notes.checked ++ map (note_of a) reads }

-- the notes once the epoch was read: if it is unmoved, what was pending is checked; if it has moved, nothing is left
abbrev pub confirmed_notes : Notes → Bool → Notes
confirmed_notes notes true = record { pending = []; checked = notes.checked ++ notes.pending }
confirmed_notes notes _ = no_notes

-- the notes of a pass after its step in a world, from the incarnations after the step
abbrev pub notes_with : Start → World → Incarnations → ℕ → Step → Notes → Notes
notes_with start w a pass ReadEpoch notes = confirmed_notes notes (w.epoch == (w.know pass).epoch)
notes_with start w a pass (Publish pred expected s) notes =
    let step = Publish pred expected s in
    if succeeds step (found start w step) then with_won a notes (reads_won (w.know pass) step) else notes
notes_with start w a pass (Mark s expected) notes =
    let step = Mark s expected in
    if succeeds step (found start w step) then with_won a notes (reads_won (w.know pass) step) else notes
notes_with start w a pass (Replace s expected t) notes =
    let step = Replace s expected t in
    if succeeds step (found start w step) then with_won a notes (reads_won (w.know pass) step) else notes
notes_with start w a pass (Unlink pred expected s) notes =
    let step = Unlink pred expected s in
    if succeeds step (found start w step) then with_won a notes (reads_won (w.know pass) step) else notes
notes_with start w a pass step notes = with_read a notes (read_loaded step (found start w step))

-- ---- held

-- a note is one of a list
abbrev pub IsAmong : Note → List Note → Type 0
IsAmong note [] = ⊥
IsAmong note (first ∷ notes) = (note ≡ first) ⊎ IsAmong note notes

-- the read of a link that names a slot
abbrev pub LinkNames : Read → ℕ → Type 0
LinkNames (LinkAt place link) s = link.slot ≡ Some s
LinkNames _ s = ⊥

-- a note is of a link that names a slot and, at its step, this incarnation
abbrev pub Gives : Note → ℕ → ℕ → Type 0
Gives note s c = LinkNames note.read s × (note.names ≡ Some c)

-- a pass holds an incarnation at a slot: a checked link that names the slot gave it
abbrev pub IsHeldBy : List Note → ℕ → ℕ → Type 0
IsHeldBy checked s c = (note : Note) × IsAmong note checked × Gives note s c

-- the incarnation that the pass holds at a slot, and no other
pub record HoldsJust (checked : List Note) (s c : ℕ) : Type 0 where
  pub held : IsHeldBy checked s c
  pub only : (d : ℕ) → IsHeldBy checked s d → d ≡ c

-- the incarnation that the pass holds at a slot is this one, which is the last of its slot
abbrev pub HoldsLast : Incarnations → List Note → ℕ → Type 0
HoldsLast a checked s = (c : ℕ) × HoldsJust checked s c × (a.last s ≡ Some c)

-- ---- right reads

-- a read of a slot that had this last incarnation was of the incarnation that the pass holds there
abbrev pub IsOfHeld : List Note → ℕ → Option ℕ → Type 0
IsOfHeld checked s of = (c : ℕ) × HoldsJust checked s c × (of ≡ Some c)

-- a read was of the incarnation that the pass holds at its slot; a head has none
abbrev pub ReadsHeld : List Note → Read → Option ℕ → Type 0
ReadsHeld checked (LinkAt (Head b) link) of = Unit {0}
ReadsHeld checked (LinkAt (Slot s) link) of = IsOfHeld checked s of
ReadsHeld checked (BirthOf s birth) of = IsOfHeld checked s of
ReadsHeld checked (KeyOf s key) of = IsOfHeld checked s of
ReadsHeld checked (ValueOf s value) of = IsOfHeld checked s of

-- a checked read is right: at the step that gave it, the last incarnation of its slot was the one that the pass holds there, and what was read is that one's
pub record IsRightRead (checked : List Note) (note : Note) : Type 0 where
  pub held : ReadsHeld checked note.read note.of
  pub value : note.read ≡ note.shown

-- all checked reads of a pass are right
abbrev pub AreRightReads : List Note → Type 0
AreRightReads checked = (note : Note) → IsAmong note checked → IsRightRead checked note

-- ---- right exchanges

-- what is held at a place is the last of its slot; a head always is
abbrev pub HoldsLastAt : Incarnations → List Note → At → Type 0
HoldsLastAt a checked (Head b) = Unit {0}
HoldsLastAt a checked (Slot s) = HoldsLast a checked s

-- what is held at the slot that a link names is the last of its slot, if it names one
abbrev pub HoldsLastNext : Incarnations → List Note → Option ℕ → Type 0
HoldsLastNext a checked None = Unit {0}
HoldsLastNext a checked (Some s) = HoldsLast a checked s

-- the incarnations that an exchange on a link names are the last of their slots: the one held at its place and, but for a mark, the one held at what the expected link names
abbrev pub NamesLast : Incarnations → List Note → Step → Type 0
NamesLast a checked (Publish pred expected s) = HoldsLastAt a checked pred × HoldsLastNext a checked (link_of expected).slot
NamesLast a checked (Mark s expected) = HoldsLast a checked s
NamesLast a checked (Replace s expected t) = HoldsLast a checked s × HoldsLastNext a checked (link_of expected).slot
NamesLast a checked (Unlink pred expected s) = HoldsLastAt a checked pred × HoldsLastNext a checked (link_of expected).slot
NamesLast a checked step = Unit {0}

-- what the pass holds at the slot that a link names is this successor; there is none if the link names no slot
abbrev pub HoldsNext : List Note → Option ℕ → Option ℕ → Type 0
HoldsNext checked None next = next ≡ None
HoldsNext checked (Some s) next = (c : ℕ) × HoldsJust checked s c × (next ≡ Some c)
