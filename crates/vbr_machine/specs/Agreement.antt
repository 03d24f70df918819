-- The invariant of runs: a world, the incarnations of its chronicle and the notes of its passes agree.
use Rattle.std.specs.Prelude.{◌≡◌, ◌≢◌, ℕ, ◌-◌, ◌^◌, ◌<◌, ◌≤◌, min, Bool, true, false, List, map, Option, Some, None}
use Rattle.std.specs.List.{AllByRecursion}
use Rattle.vbr_machine.specs.Start.{Start, IsStart}
use Rattle.vbr_words.specs.Links.{IsLinkOf}
use Rattle.vbr_words.specs.declared.link.Link.{Link}
use Rattle.vbr_words.specs.declared.place.At.{At}
use Rattle.vbr_words.specs.declared.place.At.TheVariants.{Head, Slot}
use Rattle.vbr_machine.specs.Knowledge.{Know}
use Rattle.vbr_machine.specs.Machine.{World}
use Rattle.vbr_machine.specs.Incarnations.{Incarnations, IsLate}
use Rattle.vbr_machine.specs.Incarnations as state
use Rattle.vbr_machine.specs.Images.{IsImage}
use Rattle.vbr_machine.specs.Chronicles.{IsLastDead}
use Rattle.vbr_machine.specs.Sound.{IsRemoved, Sound, Tells}
use Rattle.vbr_machine.specs.Notes.{Note, Notes}
use Rattle.vbr_machine.specs.declared.knowledge.Read.{Read}
use Rattle.vbr_machine.specs.declared.knowledge.Read.TheVariants.{LinkAt, BirthOf, KeyOf, ValueOf}
use Rattle.vbr_machine.specs.declared.knowledge.Unpublished.{Unpublished}
use Rattle.vbr_machine.specs.declared.knowledge.Holding.{Holding}
use Rattle.vbr_machine.specs.declared.knowledge.Holding.TheVariants.{Free, Unlinked, InHand}
use Rattle.vbr_machine.specs.declared.knowledge.SlotPlace.{SlotPlace}
use Rattle.vbr_machine.specs.declared.knowledge.SlotPlace.TheVariants.{Own, Hand}

-- ---- good notes

-- an incarnation of the slot that was born by the epoch and is late for it
pub record IsHeldIncarnation (a : Incarnations) (epoch s c : ℕ) : Type 0 where
  pub slot : a.slot c ≡ s
  pub birth : a.birth c ≤ epoch
  pub late : IsLate (a.state c) epoch

-- the incarnation at a place is held there; at a head there is none
abbrev pub IsHeldAt : Incarnations → ℕ → At → Option ℕ → Type 0
IsHeldAt a epoch (Head b) None = Unit {0}
IsHeldAt a epoch (Slot s) (Some c) = IsHeldIncarnation a epoch s c
IsHeldAt a epoch _ _ = ⊥

-- the incarnation that a link names is held at the slot that it names, and there is one exactly if it names a slot
abbrev pub IsHeldNext : Incarnations → ℕ → Option ℕ → Option ℕ → Type 0
IsHeldNext a epoch None None = Unit {0}
IsHeldNext a epoch (Some s) (Some n) = IsHeldIncarnation a epoch s n
IsHeldNext a epoch _ _ = ⊥

-- an incarnation was removed, and its successor, which no longer changes, is this one; there is none at a head
abbrev pub IsFrozen : Incarnations → Option ℕ → Option ℕ → Type 0
IsFrozen a None next = ⊥
IsFrozen a (Some c) next = IsRemoved (a.state c) × (a.next c ≡ next)

-- a link is good for an epoch: its version is no greater, the incarnation at its place and the one that it names are held, and if it is marked, they no longer change
pub record IsGoodLink (a : Incarnations) (epoch : ℕ) (holder : At) (link : Link) (of names : Option ℕ) : Type 0 where
  pub version : link.version ≤ epoch
  pub place : IsHeldAt a epoch holder of
  pub next : IsHeldNext a epoch link.slot names
  pub frozen : link.mark ≡ true → IsFrozen a of names

-- this incarnation is linked, the last of the slot at the place, and has that successor; at a head, that one is the first of the bucket
abbrev pub IsPair : Incarnations → At → Option ℕ → Option ℕ → Type 0
IsPair a (Head b) of next = (of ≡ None) × (a.first b ≡ next)
IsPair a (Slot s) of next = (c : ℕ) × (of ≡ Some c) × (a.last s ≡ Some c) × (a.state c ≡ state.Linked) × (a.next c ≡ next)

-- an incarnation, if there is one, is the last of its slot
abbrev pub IsLastOf : Incarnations → Option ℕ → Type 0
IsLastOf a None = Unit {0}
IsLastOf a (Some c) = a.last (a.slot c) ≡ Some c

-- a birth, a key or a value is that of an incarnation that is held at its slot
abbrev pub IsOfHeldOne : Incarnations → ℕ → ℕ → (ℕ → ℕ) → ℕ → Option ℕ → Type 0
IsOfHeldOne a epoch s values value None = ⊥
IsOfHeldOne a epoch s values value (Some c) = IsHeldIncarnation a epoch s c × (values c ≡ value)

-- a read is good for an epoch, as one of this incarnation and, for a link, naming this one
abbrev pub IsGoodRead : Incarnations → ℕ → Read → Option ℕ → Option ℕ → Type 0
IsGoodRead a epoch (LinkAt place link) of names = IsGoodLink a epoch place link of names
IsGoodRead a epoch (BirthOf s birth) of names = IsOfHeldOne a epoch s a.birth birth of
IsGoodRead a epoch (KeyOf s key) of names = IsOfHeldOne a epoch s a.key key of
IsGoodRead a epoch (ValueOf s value) of names = IsOfHeldOne a epoch s a.value value of

-- a note is good for an epoch
abbrev pub IsGood : Incarnations → ℕ → Note → Type 0
IsGood a epoch note = IsGoodRead a epoch note.read note.of note.names

-- what was read is what the incarnations showed
abbrev pub IsAsShown : Note → Type 0
IsAsShown note = note.read ≡ note.shown

-- the reads of notes
abbrev pub reads_of : List Note → List Read
reads_of notes = map (λ note. note.read) notes

-- ---- what a pass knows

-- what a pass has read, against its notes: its checked notes are good for its epoch, and its pending ones are while the epoch is still that one
pub record FitsNotes (a : Incarnations) (know : Know) (notes : Notes) : Type 0 where
  pub epoch : know.epoch ≤ a.epoch
  pub checked_reads : know.checked ≡ reads_of notes.checked
  pub pending_reads : know.pending ≡ reads_of notes.pending
  pub checked_shown : AllByRecursion IsAsShown notes.checked
  pub pending_shown : AllByRecursion IsAsShown notes.pending
  pub checked : AllByRecursion (IsGood a know.epoch) notes.checked
  pub pending : a.epoch ≡ know.epoch → AllByRecursion (IsGood a know.epoch) notes.pending

-- what each pass has read agrees with its notes
abbrev pub AllKnowRight : Incarnations → (ℕ → Know) → (ℕ → Notes) → Type 0
AllKnowRight a know notes = (pass : ℕ) → FitsNotes a (know pass) (notes pass)

-- ---- what a pass knows of its slots

-- a slot at this place is no pass's own and in no hand of the pass
abbrev pub IsNotOf : ℕ → SlotPlace → Type 0
IsNotOf pass (Own p) = p ≢ pass
IsNotOf pass (Hand p) = p ≢ pass
IsNotOf pass _ = Unit {0}

-- a key, a value or a link was stored since the birth exactly if the pass knows one, and then it is that one
abbrev pub IsStored : {A : Type 0} → Bool → A → Option A → Type 0
IsStored stored value None = stored ≡ false
IsStored stored value (Some known) = (stored ≡ true) × (value ≡ known)

-- the last incarnation of a slot was unlinked by the pass, at an epoch no greater than the pass's if the pass has read it since
pub record IsUnlinkedBy (a : Incarnations) (pass epoch : ℕ) (reread : Bool) (last : Option ℕ) : Type 0 where
  pub node : ℕ
  pub last_is : last ≡ Some node
  pub unlinked : ℕ
  pub state : a.state node ≡ state.Unlinked pass unlinked
  pub seen : reread ≡ true → unlinked ≤ epoch

-- the last incarnation of a slot is in hand of the pass, was born by its epoch, and has the birth, the key, the value and the link that the pass knows
pub record IsInHandOf (a : Incarnations) (pass epoch : ℕ) (known : Unpublished) (last : Option ℕ) : Type 0 where
  pub node : ℕ
  pub last_is : last ≡ Some node
  pub state : a.state node ≡ state.InHand pass
  pub born : a.birth node ≤ epoch
  pub birth_is : a.birth node ≡ known.birth
  pub keyed : IsStored (a.is_keyed node) (a.key node) known.key
  pub valued : IsStored (a.is_valued node) (a.value node) known.value
  pub aimed : IsStored (a.is_aimed node) (a.link node) known.link

-- what a pass knows of a slot that has this place, last incarnation and stamp
abbrev pub OwnFits : Incarnations → ℕ → ℕ → Option Holding → SlotPlace → Option ℕ → ℕ → Type 0
OwnFits a pass epoch None place last stamp = IsNotOf pass place
OwnFits a pass epoch (Some (Free known)) place last stamp = (place ≡ Own pass) × IsLastDead a last × (stamp ≡ known)
OwnFits a pass epoch (Some (Unlinked reread)) place last stamp = (place ≡ Own pass) × IsUnlinkedBy a pass epoch reread last
OwnFits a pass epoch (Some (InHand known)) place last stamp = (place ≡ Hand pass) × IsInHandOf a pass epoch known last × (stamp ≡ known.stamp)

-- what each pass knows of each slot fits
abbrev pub Owns : Incarnations → (ℕ → Know) → Type 0
Owns a know = (pass s : ℕ) → OwnFits a pass (know pass).epoch ((know pass).own s) (a.place s) (a.last s) (a.stamp s)

-- ---- the invariant

-- words have room for the incarnations of a shape: for their births, which are no greater than the epoch, their slots and their links
pub record Fits (start : Start) (a : Incarnations) : Type 0 where
  pub is_start : IsStart start
  pub epoch : a.epoch ≤ start.shape.last_epoch
  pub slot : (c : ℕ) → c < a.count → a.slot c < start.shape.slots
  pub link : (c : ℕ) → IsLinkOf start.shape (a.link c)

-- a world, the incarnations of its chronicle and the notes of its passes agree; the births are counted up to the greatest number
pub record Agrees (start : Start) (w : World) (a : Incarnations) (notes : ℕ → Notes) : Type 0 where
  pub sound : Sound start a
  pub tells : Tells start a
  pub fits : Fits start a
  pub image : IsImage w a
  pub knows : AllKnowRight a w.know notes
  pub owns : Owns a w.know
  pub calls : w.calls ≡ a.calls
  pub births : w.births ≡ min a.count (2 ^ 64 - 1)
