-- What a link word says, and the word of a link.
use Rattle.std.specs.Prelude.{ℕ, zero, suc, ◌+◌, ◌*◌, ◌/◌, ◌%◌, ◌<◌, ◌≤◌, ◌==◌, Bool, Option, Some, None, IfSome, if◌then◌else◌}
use Rattle.vbr_words.specs.declared.link.Link.{Link}
use Rattle.vbr_words.specs.declared.link.TheConstants.{MARK, VERSION_UNIT, MAX_SLOTS, MAX_VERSION}

-- a link whose parts fit their fields
pub record IsLink (link : Link) : Type 0 where
  pub slot : IfSome link.slot (λ slot. slot < MAX_SLOTS)
  pub version : link.version ≤ MAX_VERSION

-- the slot field: 0 for no slot, else one more than the slot's number
abbrev pub slot_field : Option ℕ → ℕ
slot_field None = 0
slot_field (Some slot) = suc slot

-- the mark as a digit
abbrev pub mark_digit : Bool → ℕ
mark_digit mark = if mark then 1 else 0

-- the mark field
abbrev pub mark_field : Bool → ℕ
mark_field mark = if mark then MARK else 0

-- the word of a link: the slot field, the mark above it, the version above the mark
unfoldable pub word_of : Link → ℕ
word_of link = slot_field link.slot + mark_field link.mark + link.version * VERSION_UNIT

-- the slot of a slot field
abbrev pub slot_in : ℕ → Option ℕ
slot_in zero = None
slot_in (suc slot) = Some slot

-- the link of a word
unfoldable pub link_of : ℕ → Link
link_of word = record { slot = slot_in (word % MARK); mark = word / MARK % 2 == 1; version = word / VERSION_UNIT }
