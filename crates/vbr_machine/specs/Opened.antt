-- The keys that a set opens with, and their values if nodes have them: the first stands in the first slot, the next in the next, and each is linked in the list of its bucket.
use Rattle.std.specs.Prelude.{ℕ, zero, suc, ◌-◌, ◌==◌, nat_lt, Bool, List, [], ◌∷◌, length, Option, Some, None, slice_index_or, if◌then◌else◌}
use Rattle.vbr_machine.specs.Start.{Start}
use Rattle.vbr_words.specs.declared.link.Link.{Link}
use Rattle.vbr_machine.specs.Keys.{Keys, keys_of}
use Rattle.vbr_machine.specs.History.{Payloads}
use Rattle.vbr_machine.specs.Links.{opening_link, link_to}
use Rattle.vbr_words.specs.Buckets.{bucket_of}
use Rattle.vbr_machine.specs.declared.knowledge.SlotPlace.{SlotPlace}
use Rattle.vbr_machine.specs.declared.knowledge.SlotPlace.TheVariants.{Shared, Listed}

-- the set of the keys
abbrev pub opening_keys : Start → Keys
opening_keys start = keys_of start.keys

-- how many there are
abbrev pub key_count : Start → ℕ
key_count start = length start.keys

-- whether a slot has a key at opening: the one of its own number
abbrev pub has_opening_key : Start → ℕ → Bool
has_opening_key start s = nat_lt s (key_count start)

-- the key with a number, 0 for none
abbrev pub key_number : Start → ℕ → ℕ
key_number start number = slice_index_or start.keys number 0

-- its birth, 0 for none
abbrev pub opening_birth : Start → ℕ → ℕ
opening_birth start number = if has_opening_key start number then 1 else 0

-- ---- values

-- the value with a number, 0 for none
abbrev pub value_number : Start → ℕ → ℕ
value_number start number = if has_opening_key start number then slice_index_or start.payloads number 0 else 0

-- a value if nodes have values, and otherwise none
abbrev pub payload_kept : Start → Option ℕ → Option ℕ
payload_kept start value = if start.shape.values then value else None

-- the number of a key in a list; the length of the list if it isn't there
abbrev pub number_in : List ℕ → ℕ → ℕ
number_in [] key = 0
number_in (first ∷ keys) key = if first == key then 0 else suc (number_in keys key)

-- the value of each key, none if nodes have none
abbrev pub opening_payloads : Start → Payloads
opening_payloads start key = payload_kept start (Some (value_number start (number_in start.keys key)))

-- ---- the lists of the buckets

-- the first of so many numbers, from one on, that passes a test
abbrev pub first_number : (ℕ → Bool) → ℕ → ℕ → Option ℕ
first_number test from zero = None
first_number test from (suc more) = if test from then Some from else first_number test (suc from) more

-- whether the key with a number is of a bucket
abbrev pub is_key_of : Start → ℕ → ℕ → Bool
is_key_of start bucket number = bucket_of start.shape (key_number start number) == bucket

-- the number of the first key of a bucket, from a number on
abbrev pub first_from : Start → ℕ → ℕ → Option ℕ
first_from start bucket from = first_number (is_key_of start bucket) from (key_count start - from)

-- the first key of a bucket
abbrev pub first_key : Start → ℕ → Option ℕ
first_key start bucket = first_from start bucket 0

-- the key behind a key in the list of its bucket
abbrev pub key_behind : Start → ℕ → Option ℕ
key_behind start number = first_from start (bucket_of start.shape (key_number start number)) (suc number)

-- ---- links

-- the birth of the key that a link names, 0 for none
abbrev pub birth_named : Start → Option ℕ → ℕ
birth_named start None = 0
birth_named start (Some number) = opening_birth start number

-- the link to a key or to none, whose holder has this birth
abbrev pub link_to_key : Start → ℕ → Option ℕ → Link
link_to_key start holder_birth number = link_to number holder_birth (birth_named start number)

-- the link of a slot
abbrev pub link_at_opening : Start → ℕ → Link
link_at_opening start s = if has_opening_key start s then link_to_key start (opening_birth start s) (key_behind start s) else opening_link

-- where a slot is: in the list of its key's bucket, or in the shared pool if it has none
abbrev pub opening_place : Start → ℕ → SlotPlace
opening_place start s = if has_opening_key start s then Listed (bucket_of start.shape (key_number start s)) else Shared
