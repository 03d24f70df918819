-- The places of words: which there are in a shape, and the index of each.
use Rattle.std.specs.Prelude.{◌≡◌, ℕ, ◌+◌, ◌*◌, ◌<◌, Bool, true, if◌then◌else◌}
use Rattle.vbr_words.specs.Dimensions.{Dimensions}
use Rattle.vbr_words.specs.Flags.{flag_words}
use Rattle.vbr_words.specs.declared.place.At.{At}
use Rattle.vbr_words.specs.declared.place.At.TheVariants as holder
use Rattle.vbr_words.specs.declared.place.Place.{Place}
use Rattle.vbr_words.specs.declared.place.Place.TheVariants.{Epoch, ShapeWord, Head, LinkOf, Birth, Stamp, Key, Value, Flags}

-- the place is there: its bucket or its slot is one of the shape, or its flags are those of slots of the shape; and a value is there only if nodes have values
abbrev pub IsIn : Dimensions → Place → Type 0
IsIn shape Epoch = Unit {0}
IsIn shape ShapeWord = Unit {0}
IsIn shape (Head bucket) = bucket < shape.buckets
IsIn shape (LinkOf slot) = slot < shape.slots
IsIn shape (Birth slot) = slot < shape.slots
IsIn shape (Stamp slot) = slot < shape.slots
IsIn shape (Key slot) = slot < shape.slots
IsIn shape (Value slot) = (slot < shape.slots) × (shape.values ≡ true)
IsIn shape (Flags number) = number < flag_words shape.slots

-- where the words of slots begin: after the epoch, the shape and the heads
abbrev pub slots_index : Dimensions → ℕ
slots_index shape = 2 + shape.buckets

-- how many words a node has: its link, birth, stamp and key, and its value if it has one
abbrev pub words_of_node : Bool → ℕ
words_of_node values = if values then 5 else 4

-- how many words each slot of a shape has
abbrev pub node_words : Dimensions → ℕ
node_words shape = words_of_node shape.values

-- where the words of a slot begin
abbrev pub slot_index : Dimensions → ℕ → ℕ
slot_index shape slot = slots_index shape + node_words shape * slot

-- where the flag words begin: after the words of all slots
abbrev pub flags_index : Dimensions → ℕ
flags_index shape = slot_index shape shape.slots

-- the index of a place
abbrev pub index_of : Dimensions → Place → ℕ
index_of shape Epoch = 0
index_of shape ShapeWord = 1
index_of shape (Head bucket) = 2 + bucket
index_of shape (LinkOf slot) = slot_index shape slot
index_of shape (Birth slot) = slot_index shape slot + 1
index_of shape (Stamp slot) = slot_index shape slot + 2
index_of shape (Key slot) = slot_index shape slot + 3
index_of shape (Value slot) = slot_index shape slot + 4
index_of shape (Flags number) = flags_index shape + number

-- the number of words: the flag words come last
abbrev pub words_in : Dimensions → ℕ
words_in shape = flags_index shape + flag_words shape.slots

-- the place of a link word
abbrev pub place_of : At → Place
place_of (holder.Head bucket) = Head bucket
place_of (holder.Slot slot) = LinkOf slot
