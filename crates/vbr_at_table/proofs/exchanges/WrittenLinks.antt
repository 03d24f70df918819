-- The links that are written: they fit into a word, and they are those that the machine writes.
use Rattle.std.proofs.Common.{◌≡◌, ℕ, ◌<◌, ◌≤◌, Option, Some, None, arith, ap}
use Rattle.std.specs.Prelude.{IfSome}
use Rattle.vbr_words.specs.Words.{IsLink, link_of, word_of}
use Rattle.vbr_words.specs.Packing.{IsPackable, slot_bits}
use Rattle.vbr_words.specs.declared.link.Link.{Link}
use Rattle.vbr_words.proofs.Lemmas.{shape_has_room}
use Rattle.vbr_words.specs.declared.link.TheConstants.{MAX_SLOTS}
use Rattle.vbr_words.specs.declared.place.At.{At}
use Rattle.vbr_words.specs.declared.place.At.TheVariants.{Head, Slot}
use Rattle.vbr_machine.specs.Acceptance.{IsNextIn}
use Rattle.vbr_machine.specs.Links.{link_to, marked}
use Rattle.vbr_machine.specs.Start.{Start}
use Rattle.vbr_machine.specs.Knowledge.{Know}
use Rattle.vbr_machine.specs.Learning.{birth_in_hand}
use Rattle.vbr_machine.specs.Membership.{BirthAt, BirthNamed, IsUnlinkLink}
use Rattle.vbr_slots.specs.views.Views.{PassView, knows}
use Rattle.vbr_at_table.specs.reads.Held.{IsHeld, HoldsMarked}
use Rattle.vbr_slots.specs.steps.PassLaw.{PassLaw}
use Rattle.vbr_at_table.specs.declared.held.Held.{Held}
use Rattle.vbr_at_table.specs.declared.held.Marked.{Marked}
use Rattle.vbr_at_table.proofs.reads.PlacesInShape.{birth_in, hand_in}

-- what a link names is a slot of the shape, or none
slot_in : (start : Start) (next : Option ℕ) → IsNextIn start next → IfSome next (λ s. s < start.shape.slots)
slot_in start None low = low
slot_in start (Some s) low = low

module _ (p : PassView) (sound : PassLaw p) where
  -- known births are epochs of the shape
  pub birth_at_low : (place : At) (birth : ℕ) → BirthAt (knows p.trace) place birth →
      birth ≤ p.trace.start.shape.last_epoch
  birth_at_low (Head b) birth k = omega (arith, k)
  birth_at_low (Slot s) birth k =
      birth_in p.trace.start p.trace.passes p.trace.seen sound.start sound.is_run p.trace.who s birth k

  pub birth_named_low : (named : Option ℕ) (birth : ℕ) → BirthNamed (knows p.trace) named birth →
      birth ≤ p.trace.start.shape.last_epoch
  birth_named_low None birth k = omega (arith, k)
  birth_named_low (Some s) birth k =
      birth_in p.trace.start p.trace.passes p.trace.seen sound.start sound.is_run p.trace.who s birth k

  pub birth_in_hand_low : (s birth : ℕ) → birth_in_hand ((knows p.trace).own s) ≡ birth →
      birth ≤ p.trace.start.shape.last_epoch
  birth_in_hand_low s birth is =
      let low = hand_in p.trace.start p.trace.passes p.trace.seen sound.start sound.is_run p.trace.who s in
      omega (arith, low, is)

  -- a link of such births fits
  pub fits : (slot : Option ℕ) (holder named : ℕ) → IfSome slot (λ s. s < MAX_SLOTS) →
      holder ≤ p.trace.start.shape.last_epoch → named ≤ p.trace.start.shape.last_epoch →
      IsLink (link_to slot holder named)
  fits slot holder named low i j =
      record { slot = low; version = let high = sound.start.shape.last_epoch in omega (arith, high, i, j) }

  -- and has room where the table keeps it
  pub has_room : (slot : Option ℕ) (holder named : ℕ) → IsNextIn p.trace.start slot →
      holder ≤ p.trace.start.shape.last_epoch → named ≤ p.trace.start.shape.last_epoch →
      IsPackable (slot_bits p.trace.start.shape.slots) (word_of (link_to slot holder named))
  has_room slot holder named low i j =
      shape_has_room p.trace.start.shape sound.start.shape (link_to slot holder named)
      (record { slot = slot_in p.trace.start slot low; version = omega (arith, i, j) })

  pub marked_has_room : (slot : Option ℕ) (holder named : ℕ) → IsNextIn p.trace.start slot →
      holder ≤ p.trace.start.shape.last_epoch → named ≤ p.trace.start.shape.last_epoch →
      IsPackable (slot_bits p.trace.start.shape.slots) (word_of (marked (link_to slot holder named)))
  marked_has_room slot holder named low i j =
      shape_has_room p.trace.start.shape sound.start.shape (marked (link_to slot holder named))
      (record { slot = slot_in p.trace.start slot low; version = omega (arith, i, j) })

-- the link that an unlinking writes
pub unlink_link : {know : Know} (pred : Held) (marked : Marked) (link : Link) (birth : ℕ) → IsHeld know pred →
    HoldsMarked know marked → link ≡ link_of marked.word → BirthNamed know (link_of marked.word).slot birth →
    IsUnlinkLink know pred.at marked.slot (link_to link.slot pred.birth birth)
unlink_link pred marked link birth h m is k = record {
  frozen = link_of marked.word;
  known = m.held.link;
  is_marked = m.mark;
  birth = pred.birth;
  birth_known = h.birth;
  next_birth = birth;
  next_known = k;
  is = ap (λ (l : Link). link_to l.slot pred.birth birth) is;
}
