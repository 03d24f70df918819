-- What an opening of handles answers, and what it leaves in them.
use Rattle.std.specs.Prelude.{◌≡◌, ℕ, ◌<◌, ◌≤◌, ◌⊎◌, All, Bool, false, List, [], length, map, Option, None, Some, Result, Ok, Err}
use Rattle.std.specs.List.Sorted.{IsStrictlyIncreasing}
use Rattle.vbr_words.specs.Buckets.{multiplier_of}
use Rattle.vbr_words.specs.Dimensions.{Dimensions, IsShape}
use Rattle.vbr_words.specs.Shapes.{last_epoch_for}
use Rattle.vbr_machine.specs.Start.{Start, start_with}
use Rattle.vbr_slots.specs.views.Views.{TableView}
use Rattle.vbr_set.specs.calls.Members.{MemberView as Member, new_members}
use Rattle.vbr_handles.specs.Listings.{Listing, as_entries}
use Rattle.vbr_handles.specs.OpeningReserves.{StartWithReserves}
use Rattle.vbr_handles.specs.declared.entry.Entry.{Entry}
use Rattle.vbr_handles.specs.declared.opening.OpenRefusal.{OpenRefusal}
use Rattle.vbr_handles.specs.declared.opening.ShapeNumbers.{ShapeNumbers}
use Rattle.vbr_handles.specs.declared.opening.OpenRefusal.TheVariants.{InUse, Shape, Passes, Keys, Memory}

-- the shape of these numbers with its keys spread over the buckets by their seed, whose nodes have values or not
abbrev pub spread_shape : ShapeNumbers → Bool → Dimensions
spread_shape numbers values = record { slots = numbers.slots; buckets = numbers.buckets; spread = Some (multiplier_of numbers.seed); last_epoch = last_epoch_for numbers.slots numbers.last_epoch; values = values }

-- a set of these numbers, with its keys spread over the buckets, which opens with these keys
abbrev pub spread_start : ShapeNumbers → List ℕ → Start
spread_start numbers keys = start_with (spread_shape numbers false) keys []

-- a set or a map of these numbers, with its keys spread over the buckets, which opens with what is listed
abbrev pub listed_start : {R I : Type 0} → Listing R I → ShapeNumbers → List I → Start
listed_start L numbers items = start_with (spread_shape numbers L.values) (L.keys items) (L.payloads items)

-- the same for a map, which opens with these entries
abbrev pub entries_start : ShapeNumbers → List Entry → Start
entries_start = listed_start as_entries

-- not from 1 to the most that there may be
abbrev pub IsBadCount : ℕ → ℕ → Type 0
IsBadCount most count = (count ≡ 0) ⊎ (most < count)

-- the numbers of a shape are in range
abbrev pub AreInRange : Start → Type 0
AreInRange start = IsShape start.shape

-- the keys ascend, each above the one before, and each has a slot
abbrev pub CanOpen : List ℕ → ℕ → Type 0
CanOpen keys slots = IsStrictlyIncreasing keys × (length keys ≤ slots)

abbrev pub HasOpeningKeys : Start → Type 0
HasOpeningKeys start = CanOpen start.keys start.shape.slots

module _ {H : Type 0} (member : H → Option Member) where
  -- no handle has a member
  abbrev pub AreEmpty : List H → Type 0
  AreEmpty handles = All (λ handle. member handle ≡ None) handles

  -- each handle is full, all are of one set that starts so, which was opened with so many passes, and each has the fresh pass of its number, which then took its reserve
  pub record AreOpened (start : Start) (handles : List H) : Type 0 where
    pub set : TableView
    pub shaped : set.start ≡ start
    pub counted : set.passes ≡ length handles
    pub came : List Member
    pub reserves : StartWithReserves (new_members set (length handles)) came
    pub members : map member handles ≡ map Some came

  -- for handles up to a number: they are opened if they were empty, the numbers are in range and the keys ascend; otherwise they are as they were, and the answer is the first test that failed
  abbrev pub Opens : ℕ → List H → List H → Start → Result (Unit {0}) OpenRefusal → Type 0
  Opens most before after start (Ok done) = AreEmpty before × AreInRange start × ¬ (IsBadCount most (length before)) × HasOpeningKeys start × AreOpened start after
  Opens most before after start (Err Shape) = (after ≡ before) × ¬ (AreInRange start)
  Opens most before after start (Err Passes) = (after ≡ before) × AreInRange start × IsBadCount most (length before)
  Opens most before after start (Err InUse) = (after ≡ before) × AreInRange start × ¬ (IsBadCount most (length before)) × ¬ (AreEmpty before)
  Opens most before after start (Err Keys) = (after ≡ before) × AreEmpty before × AreInRange start × ¬ (IsBadCount most (length before)) × ¬ (HasOpeningKeys start)
  Opens most before after start (Err Memory) = (after ≡ before) × AreEmpty before × AreInRange start × ¬ (IsBadCount most (length before)) × HasOpeningKeys start
