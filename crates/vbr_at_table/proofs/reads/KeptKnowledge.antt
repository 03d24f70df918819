-- What was known stays known.
use Rattle.std.proofs.Common.{◌≡◌, ℕ, Some, ◌∙◌, sym, refl}
use Rattle.vbr_words.specs.declared.place.At.{At}
use Rattle.vbr_words.specs.declared.place.At.TheVariants.{Head, Slot}
use Rattle.vbr_machine.specs.Knowledge.{Know}
use Rattle.vbr_machine.specs.Membership.{IsHeldSlot, IsHeldPlace, HeldIn, at_head, at_slot, BirthAt, BirthNamed}
use Rattle.vbr_machine.specs.Membership.{StandsBehind, StandsBefore}
use Rattle.vbr_machine.specs.declared.knowledge.Read.TheVariants.{LinkAt}
use Rattle.vbr_machine.specs.Start.{Start}
use Rattle.vbr_words.specs.Words.{link_of}
use Rattle.std.proofs.Common.{Option, None}
use Rattle.vbr_at_table.specs.reads.Held.{IsHeld, HoldsMarked, held_of}
use Rattle.vbr_at_table.specs.reads.KeptKnowledge.{Keeps}
use Rattle.vbr_at_table.specs.declared.held.Held.{Held}
use Rattle.vbr_at_table.specs.declared.held.Marked.{Marked}

pub keeps_refl : (know : Know) → Keeps know know
keeps_refl know = record { epoch = refl; reads = λ read k. k }

pub keeps_on : {a b c : Know} → Keeps a b → Keeps b c → Keeps a c
keeps_on x y = record { epoch = y.epoch ∙ x.epoch; reads = λ read k. y.reads read (x.reads read k) }

-- ---- what is held

pub slot_kept : {a b : Know} (s : ℕ) → Keeps a b → IsHeldSlot a s → IsHeldSlot b s
slot_kept s k h = record
    { place = h.place; link = h.link; known = k.reads (LinkAt h.place h.link) h.known; names = h.names }

pub place_kept : {a b : Know} (place : At) → Keeps a b → IsHeldPlace a place → IsHeldPlace b place
place_kept (Head b) k h = tt
place_kept (Slot s) k h = slot_kept s k h

pub birth_kept : {a b : Know} (place : At) (birth : ℕ) → Keeps a b → BirthAt a place birth → BirthAt b place birth
birth_kept (Head b) birth k h = h
birth_kept (Slot s) birth k h = k.reads _ h

pub birth_named_kept : {a b : Know} (named : Option ℕ) (birth : ℕ) → Keeps a b → BirthNamed a named birth →
    BirthNamed b named birth
birth_named_kept None birth k h = h
birth_named_kept (Some s) birth k h = k.reads _ h

-- a place that is held in a bucket stays held there
pub held_in_kept : {a b : Know} (place : At) (bucket : ℕ) → Keeps a b → HeldIn a place bucket → HeldIn b place bucket
held_in_kept _ _ k (at_head bucket) = at_head bucket
held_in_kept _ _ k (at_slot place link s bucket h known names) =
    at_slot place link s bucket (held_in_kept place bucket k h) (k.reads (LinkAt place link) known) names

-- and so is what its link names
pub held_in_next : {know : Know} (held : Held) (s bucket : ℕ) → IsHeld know held → (link_of held.word).slot ≡ Some s →
    HeldIn know held.at bucket → HeldIn know (Slot s) bucket
held_in_next held s bucket h names i = at_slot held.at (link_of held.word) s bucket i h.link names

pub held_kept : {a b : Know} (held : Held) → Keeps a b → IsHeld a held → IsHeld b held
held_kept held k h =
    record { epoch = h.epoch ∙ sym k.epoch; link = k.reads _ h.link; birth = birth_kept held.at held.birth k h.birth }

pub marked_kept : {a b : Know} (marked : Marked) → Keeps a b → HoldsMarked a marked → HoldsMarked b marked
marked_kept marked k h = record { held = held_kept (held_of marked) k h.held; mark = h.mark }

-- ---- where keys stand

pub behind_kept : {a b : Know} (start : Start) (place : At) (key : ℕ) → Keeps a b → StandsBehind start a place key →
    StandsBehind start b place key
behind_kept start (Head b) key k h = h
behind_kept start (Slot s) key k h = (h.0, k.reads _ h.1, h.2, h.3)

pub before_kept : {a b : Know} (key : ℕ) (named : Option ℕ) → Keeps a b → StandsBefore a key named →
    StandsBefore b key named
before_kept key None k h = tt
before_kept key (Some s) k h = (h.0, k.reads _ h.1, h.2)
