-- The image of a chronicle: the words that its incarnations stand for.
use Rattle.std.specs.Prelude.{◌≡◌, ℕ, Option, Some, None}
use Rattle.vbr_words.specs.declared.link.Link.{Link}
use Rattle.vbr_words.specs.declared.place.At.{At}
use Rattle.vbr_words.specs.declared.place.At.TheVariants.{Head, Slot}
use Rattle.vbr_machine.specs.Links.{opening_link, link_to, marked}
use Rattle.vbr_machine.specs.Incarnations.{State, Linked, Marked, Unlinked, Stamped, Incarnations}
use Rattle.vbr_machine.specs.Machine.{World}

-- the birth of an incarnation, 0 for none
abbrev pub birth_shown : Incarnations → Option ℕ → ℕ
birth_shown a None = 0
birth_shown a (Some c) = a.birth c

-- the key of an incarnation, 0 for none
abbrev pub key_shown : Incarnations → Option ℕ → ℕ
key_shown a None = 0
key_shown a (Some c) = a.key c

-- the value of an incarnation, 0 for none
abbrev pub value_shown : Incarnations → Option ℕ → ℕ
value_shown a None = 0
value_shown a (Some c) = a.value c

-- the slot of an incarnation, none for none
abbrev pub slot_shown : Incarnations → Option ℕ → Option ℕ
slot_shown a None = None
slot_shown a (Some c) = Some (a.slot c)

-- the unmarked link to an incarnation or to none, whose holder has this birth
abbrev pub link_to_next : Incarnations → ℕ → Option ℕ → Link
link_to_next a holder_birth next = link_to (slot_shown a next) holder_birth (birth_shown a next)

-- the link that an incarnation shows in this state: once linked, the link to its successor; once marked, the same with the mark; before, what was stored last
abbrev pub link_in_state : Incarnations → ℕ → State → Link
link_in_state a c Linked = link_to_next a (a.birth c) (a.next c)
link_in_state a c Marked = marked (link_to_next a (a.birth c) (a.next c))
link_in_state a c (Unlinked pass unlinked) = marked (link_to_next a (a.birth c) (a.next c))
link_in_state a c (Stamped unlinked stamp) = marked (link_to_next a (a.birth c) (a.next c))
link_in_state a c _ = a.link c

-- the link that an incarnation shows; a slot where nothing was born shows the opening link
abbrev pub link_shown : Incarnations → Option ℕ → Link
link_shown a None = opening_link
link_shown a (Some c) = link_in_state a c (a.state c)

-- the link that the image has at a place: at a head the link to the first of its bucket, in a slot the link of its last incarnation
abbrev pub link_shown_at : Incarnations → At → Link
link_shown_at a (Head b) = link_to_next a 0 (a.first b)
link_shown_at a (Slot s) = link_shown a (a.last s)

-- the words of a world are the image of the incarnations, and each slot has the same place in both; so the flag of a slot is set exactly if the slot is in the shared pool
pub record IsImage (w : World) (a : Incarnations) : Type 0 where
  pub epoch : w.epoch ≡ a.epoch
  pub head : (b : ℕ) → w.head b ≡ link_shown_at a (Head b)
  pub link : (s : ℕ) → w.link s ≡ link_shown_at a (Slot s)
  pub birth : (s : ℕ) → w.birth s ≡ birth_shown a (a.last s)
  pub key : (s : ℕ) → w.key s ≡ key_shown a (a.last s)
  pub value : (s : ℕ) → w.value s ≡ value_shown a (a.last s)
  pub stamp : (s : ℕ) → w.stamp s ≡ a.stamp s
  pub place : (s : ℕ) → w.place s ≡ a.place s
