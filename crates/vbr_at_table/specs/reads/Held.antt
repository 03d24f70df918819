-- What a caller holds, against what its pass knows.
use Rattle.std.specs.Prelude.{◌≡◌, ℕ, true, false, Option, Some, None}
use Rattle.vbr_words.specs.Words.{link_of}
use Rattle.vbr_words.specs.declared.link.Link.{Link}
use Rattle.vbr_words.specs.declared.place.At.{At}
use Rattle.vbr_words.specs.declared.place.At.TheVariants.{Head, Slot}
use Rattle.vbr_machine.specs.Knowledge.{Know}
use Rattle.vbr_machine.specs.Membership.{Knows, BirthAt}
use Rattle.vbr_machine.specs.declared.knowledge.Holding.{Holding}
use Rattle.vbr_machine.specs.declared.knowledge.Unpublished.{Unpublished}
use Rattle.vbr_machine.specs.declared.knowledge.Holding.TheVariants.{InHand}
use Rattle.vbr_machine.specs.declared.knowledge.Read.TheVariants.{LinkAt}
use denote.Bor.{Bor}
use Rattle.vbr_at_table.specs.declared.held.Held.{Held}
use Rattle.vbr_at_table.specs.declared.held.Marked.{Marked}
use Rattle.vbr_at_table.specs.declared.rollback.Rollback.{Rollback}
use Rattle.vbr_at_table.specs.declared.rollback.Rollback.TheVariants.{EpochMoved, LostExchange}
use Rattle.vbr_words.specs.Packing.{slot_bits, unpacked}
use Rattle.vbr_slots.specs.views.Views.{TableView}

-- ---- words as a table keeps them

-- what is held, with the number of its link word in place of what the table keeps
abbrev pub said_in : ℕ → Held → Held
said_in bits held = record { at = held.at; birth = held.birth; word = unpacked bits held.word; epoch = held.epoch }

abbrev pub said_marked_in : ℕ → Marked → Marked
said_marked_in bits marked = record { slot = marked.slot; birth = marked.birth; word = unpacked bits marked.word; epoch = marked.epoch }

-- why a pass rolled back, with the number of the word that an exchange found
abbrev pub said_rollback_in : ℕ → Rollback → Rollback
said_rollback_in bits (EpochMoved now) = EpochMoved now
said_rollback_in bits (LostExchange found) = LostExchange (unpacked bits found)

-- the same, with the slot bits of a table
abbrev pub said : TableView → Held → Held
said table held = said_in (slot_bits table.start.shape.slots) held

abbrev pub said_marked : TableView → Marked → Marked
said_marked table marked = said_marked_in (slot_bits table.start.shape.slots) marked

abbrev pub said_if : TableView → Option Held → Option Held
said_if table None = None
said_if table (Some held) = Some (said table held)

abbrev pub said_succ : TableView → Option (Bor Held) → Option (Bor Held)
said_succ table None = None
said_succ table (Some node) = Some (record node { now = said table node.now })

abbrev pub said_rollback : TableView → Rollback → Rollback
said_rollback table rollback = said_rollback_in (slot_bits table.start.shape.slots) rollback

-- ---- what a pass knows of it

-- its epoch is the pass's, and its link and its birth are known
pub record IsHeld (know : Know) (held : Held) : Type 0 where
  pub epoch : held.epoch ≡ know.epoch
  pub link : Knows know (LinkAt held.at (link_of held.word))
  pub birth : BirthAt know held.at held.birth

-- a marked node as what is held
abbrev pub held_of : Marked → Held
held_of marked = record { at = Slot marked.slot; birth = marked.birth; word = marked.word; epoch = marked.epoch }

-- a marked node is held, and its link is marked
pub record HoldsMarked (know : Know) (marked : Marked) : Type 0 where
  pub held : IsHeld know (held_of marked)
  pub mark : (link_of marked.word).mark ≡ true

-- a place is a slot's
abbrev pub IsSlot : At → Type 0
IsSlot (Head b) = ⊥
IsSlot (Slot s) = Unit {0}

-- what is held isn't a marked node: it is a head, or its link is unmarked
abbrev pub IsUnmarkedOrHead : Held → Type 0
IsUnmarkedOrHead held = IsSlot held.at → (link_of held.word).mark ≡ false

-- the link of what is held names this slot
abbrev pub Names : Held → ℕ → Type 0
Names held s = (link_of held.word).slot ≡ Some s

-- what is held behind a place is the node that the place's link names, and there is none exactly if it names none
abbrev pub IsSucc : Know → Held → Option (Bor Held) → Type 0
IsSucc know pred None = (link_of pred.word).slot ≡ None
IsSucc know pred (Some node) = IsHeld know node.now × ((s : ℕ) × Names pred s × (node.now.at ≡ Slot s))

-- a slot is in hand with this birth, and this key and link were stored since; of its value nothing is said
pub record IsFilled (holding : Option Holding) (birth key : ℕ) (link : Link) : Type 0 where
  pub known : Unpublished
  pub holding_is : holding ≡ Some (InHand known)
  pub birth_is : known.birth ≡ birth
  pub key_is : known.key ≡ Some key
  pub link_is : known.link ≡ Some link
