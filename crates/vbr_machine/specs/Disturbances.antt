-- What disturbs a pass at the list of one bucket, and the nodes that it can meet there.
use Rattle.std.specs.Prelude.{◌≡◌, ℕ, ◌+◌, ◌==◌, ◌&&◌, not, Bool, true, false, List, [], ◌∷◌, Some}
use Rattle.vbr_words.specs.Buckets.{bucket_of}
use Rattle.vbr_words.specs.declared.place.At.{At}
use Rattle.vbr_words.specs.declared.place.At.TheVariants.{Head, Slot}
use Rattle.vbr_machine.specs.Start.{Start}
use Rattle.vbr_machine.specs.Accounts.{chronicle}
use Rattle.vbr_machine.specs.Chronicles.{Happening, Advances, Inserts, Removes, Replaces, Unlinks, Entry, becomes}
use Rattle.vbr_machine.specs.Incarnations.{State, Linked, Marked, Unlinked, Stamped, Incarnations, at_opening}
use Rattle.vbr_machine.specs.Nodes.{count_below}
use Rattle.vbr_machine.specs.declared.event.Event.{Event}
use Rattle.vbr_machine.specs.declared.history.Call.{Call}
use Rattle.vbr_machine.specs.declared.history.Op.{Op}
use Rattle.vbr_machine.specs.declared.history.Op.TheVariants.{Insert, Remove}

-- ---- disturbances

-- whether an event changes the list of a bucket, or moves the epoch: an advance does, and an insert, a mark, a replacement or an unlinking of a node of the bucket
abbrev pub changes : Start → Incarnations → ℕ → Happening → Bool
changes start a bucket Advances = true
changes start a bucket (Inserts c behind) = bucket_of start.shape (a.key c) == bucket
changes start a bucket (Removes c) = bucket_of start.shape (a.key c) == bucket
changes start a bucket (Replaces old c) = bucket_of start.shape (a.key c) == bucket
changes start a bucket (Unlinks c behind) = bucket_of start.shape (a.key c) == bucket
changes start a bucket _ = false

-- 1 if a test is passed, else 0
abbrev pub one_if : Bool → ℕ
one_if true = 1
one_if false = 0

-- whether an event disturbs a pass at a bucket: it changes the list there, or moves the epoch, and is of another pass
abbrev pub disturbs : Start → ℕ → ℕ → Incarnations → Entry → Bool
disturbs start who bucket a entry = not (entry.pass == who) && changes start a bucket entry.what

-- how many of these events do, in a row
abbrev pub disturbances_in : Start → ℕ → ℕ → Incarnations → List Entry → ℕ
disturbances_in start who bucket a [] = 0
disturbances_in start who bucket a (entry ∷ entries) = one_if (disturbs start who bucket a entry) + disturbances_in start who bucket (becomes start a entry.pass entry.what) entries

-- how many events of a run did
abbrev pub disturbances : Start → List Event → ℕ → ℕ → ℕ
disturbances start run who bucket = disturbances_in start who bucket (at_opening start) (chronicle start run)

-- ---- what a pass does itself

-- whether an event is one of a pass that changes the list of a bucket, or moves the epoch
abbrev pub own_changes_by : Start → ℕ → ℕ → Incarnations → Entry → Bool
own_changes_by start who bucket a entry = (entry.pass == who) && changes start a bucket entry.what

-- how many of these events are, in a row
abbrev pub own_changes_in : Start → ℕ → ℕ → Incarnations → List Entry → ℕ
own_changes_in start who bucket a [] = 0
own_changes_in start who bucket a (entry ∷ entries) = one_if (own_changes_by start who bucket a entry) + own_changes_in start who bucket (becomes start a entry.pass entry.what) entries

-- how many events of a run are
abbrev pub own_changes : Start → List Event → ℕ → ℕ → ℕ
own_changes start run who bucket = own_changes_in start who bucket (at_opening start) (chronicle start run)

-- ---- nodes that can be met

-- whether an incarnation was inserted: it is linked, or anything that comes after
abbrev pub is_inserted : State → Bool
is_inserted Linked = true
is_inserted Marked = true
is_inserted (Unlinked pass unlinked) = true
is_inserted (Stamped unlinked stamp) = true
is_inserted _ = false

-- whether it has left all lists, after it was in one
abbrev pub has_left : State → Bool
has_left (Unlinked pass unlinked) = true
has_left (Stamped unlinked stamp) = true
has_left _ = false

-- whether an incarnation has been in the list of a bucket since an earlier moment: it is inserted, and hadn't left then
abbrev pub is_met : Start → Incarnations → Incarnations → ℕ → ℕ → Bool
is_met start before now bucket c = (is_inserted (now.state c) && not (has_left (before.state c))) && (bucket_of start.shape (now.key c) == bucket)

-- how many have
abbrev pub met : Start → Incarnations → Incarnations → ℕ → ℕ
met start before now bucket = count_below (is_met start before now bucket) now.count

-- ---- places

-- an incarnation is linked, the last of a slot, and of a bucket
pub record IsLinkedIn (start : Start) (a : Incarnations) (bucket s c : ℕ) : Type 0 where
  pub last : a.last s ≡ Some c
  pub linked : a.state c ≡ Linked
  pub of_bucket : bucket_of start.shape (a.key c) ≡ bucket

-- a place is open in a bucket: it is the head, or a linked node is there
abbrev pub IsOpenIn : Start → Incarnations → ℕ → At → Type 0
IsOpenIn start a bucket (Head b) = b ≡ bucket
IsOpenIn start a bucket (Slot s) = (c : ℕ) × IsLinkedIn start a bucket s c

-- ---- what disturbances are

-- whether an operation is one that may change the set
abbrev pub is_update : Op → Bool
is_update Insert = true
is_update Remove = true
is_update _ = false

-- how many of these calls changed the set: inserts and removes that were answered yes
abbrev pub updates : List Call → ℕ
updates [] = 0
updates (call ∷ calls) = one_if (is_update call.op && call.reply) + updates calls

-- whether an event is an unlinking, or a removal, as a replacement is of the node that it replaces
abbrev pub is_unlinking : Happening → Bool
is_unlinking (Unlinks c behind) = true
is_unlinking _ = false

abbrev pub is_removal : Happening → Bool
is_removal (Removes c) = true
is_removal (Replaces old c) = true
is_removal _ = false

-- how many of these events are of a kind
abbrev pub how_many : (Happening → Bool) → List Entry → ℕ
how_many test [] = 0
how_many test (entry ∷ entries) = one_if (test entry.what) + how_many test entries
