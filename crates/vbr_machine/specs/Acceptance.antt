-- What each kind of step asks: of the shape, of what its pass knows, and of the step alone.
use Rattle.std.specs.Prelude.{◌≡◌, ◌≢◌, ℕ, zero, suc, ◌<◌, ◌≤◌, Bool, true, false, List, Option, Some, None, IsSome, IsTrue, unwrap_or}
use Rattle.vbr_words.specs.Buckets.{bucket_of}
use Rattle.vbr_machine.specs.Start.{Start}
use Rattle.vbr_words.specs.Words.{link_of}
use Rattle.vbr_words.specs.declared.link.Link.{Link}
use Rattle.vbr_words.specs.declared.place.At.{At}
use Rattle.vbr_words.specs.declared.place.At.TheVariants.{Head, Slot}
use Rattle.vbr_machine.specs.Links.{link_to}
use Rattle.vbr_machine.specs.Knowledge.{Know, knows_link, birth_in, key_in, value_in, marked_in, holds, holds_at, birth_at, birth_of}
use Rattle.vbr_machine.specs.declared.history.Op.{Op}
use Rattle.vbr_machine.specs.declared.history.Op.TheVariants.{Insert, Remove, Get}
use Rattle.vbr_machine.specs.declared.event.Step.{Step}
use Rattle.vbr_machine.specs.declared.event.Step.TheVariants.{ReadEpoch, Advance, LoadStamp, PeekBirth, StoreStamp, Raise, TakeFlag, StoreBirth, StoreKey, StoreValue, StoreLink, LoadLink, LoadBirth, LoadKey, LoadValue, Publish, Mark, Replace, Unlink, ConfirmPresent, ConfirmAbsent}
use Rattle.vbr_machine.specs.declared.knowledge.Read.{Read}
use Rattle.vbr_machine.specs.declared.knowledge.Unpublished.{Unpublished}
use Rattle.vbr_machine.specs.declared.knowledge.Holding.{Holding}
use Rattle.vbr_machine.specs.declared.knowledge.Holding.TheVariants.{Free, Unlinked, InHand}

-- ---- the shape

-- a place of a link word is one of the shape
abbrev pub IsAtIn : Start → At → Type 0
IsAtIn start (Head b) = b < start.shape.buckets
IsAtIn start (Slot s) = s < start.shape.slots

-- what a link names, if anything, is a slot of the shape
abbrev pub IsNextIn : Start → Option ℕ → Type 0
IsNextIn start None = Unit {0}
IsNextIn start (Some s) = s < start.shape.slots

-- an operation is one of the shape: a get is one only if nodes have values
abbrev pub IsOpIn : Start → Op → Type 0
IsOpIn start Get = start.shape.values ≡ true
IsOpIn start _ = Unit {0}

-- the slots and places that the step's fields name are those of the shape, and a value is stored, loaded, replaced or asked for only if nodes have values
abbrev pub IsInShape : Start → Step → Type 0
IsInShape start ReadEpoch = Unit {0}
IsInShape start (Advance from) = Unit {0}
IsInShape start (LoadStamp s) = s < start.shape.slots
IsInShape start (PeekBirth s) = s < start.shape.slots
IsInShape start (StoreStamp s stamp) = s < start.shape.slots
IsInShape start (Raise s) = s < start.shape.slots
IsInShape start (TakeFlag s) = s < start.shape.slots
IsInShape start (StoreBirth s birth) = s < start.shape.slots
IsInShape start (StoreKey s key) = s < start.shape.slots
IsInShape start (StoreValue s value) = (s < start.shape.slots) × (start.shape.values ≡ true)
IsInShape start (StoreLink s next) = (s < start.shape.slots) × IsNextIn start next
IsInShape start (LoadLink place) = IsAtIn start place
IsInShape start (LoadBirth s) = s < start.shape.slots
IsInShape start (LoadKey s) = s < start.shape.slots
IsInShape start (LoadValue s) = (s < start.shape.slots) × (start.shape.values ≡ true)
IsInShape start (Publish pred expected s) = IsAtIn start pred × (s < start.shape.slots)
IsInShape start (Mark s expected) = s < start.shape.slots
IsInShape start (Replace s expected t) = (s < start.shape.slots) × (t < start.shape.slots) × (start.shape.values ≡ true)
IsInShape start (Unlink pred expected s) = IsAtIn start pred × (s < start.shape.slots)
IsInShape start (ConfirmPresent op s expected) = (s < start.shape.slots) × IsOpIn start op
IsInShape start (ConfirmAbsent op key place expected) = IsAtIn start place × IsOpIn start op

-- ---- what the pass owns

-- a slot that is free
abbrev pub IsFree : Option Holding → Type 0
IsFree (Some (Free stamp)) = Unit {0}
IsFree _ = ⊥

-- a slot that the pass unlinked and has not stamped since
abbrev pub IsUnlinked : Option Holding → Type 0
IsUnlinked (Some (Unlinked reread)) = Unit {0}
IsUnlinked _ = ⊥

-- a slot that may be born in or raised: free, or in hand, whose incarnation is then given up
abbrev pub MayBear : Option Holding → Type 0
MayBear (Some (Free stamp)) = Unit {0}
MayBear (Some (InHand known)) = Unit {0}
MayBear _ = ⊥

-- a slot that is in hand
abbrev pub IsInHand : Option Holding → Type 0
IsInHand (Some (InHand known)) = Unit {0}
IsInHand _ = ⊥

-- the pass owns the slot in the way that the step asks
abbrev pub IsOwned : Know → Step → Type 0
IsOwned know (LoadStamp s) = IsSome (know.own s)
IsOwned know (StoreStamp s stamp) = IsUnlinked (know.own s)
IsOwned know (Raise s) = MayBear (know.own s)
IsOwned know (StoreBirth s birth) = MayBear (know.own s)
IsOwned know (StoreKey s key) = IsInHand (know.own s)
IsOwned know (StoreValue s value) = IsInHand (know.own s)
IsOwned know (StoreLink s next) = IsInHand (know.own s)
IsOwned know (Publish pred expected s) = IsInHand (know.own s)
IsOwned know (Replace s expected t) = IsInHand (know.own t)
IsOwned know _ = Unit {0}

-- ---- what the pass has checked

-- what a link names, if anything, is held with a checked birth
abbrev pub IsNextHeld : List Read → Option ℕ → Type 0
IsNextHeld reads None = Unit {0}
IsNextHeld reads (Some s) = IsTrue (holds reads s) × IsSome (birth_in reads s)

-- the key at a place is checked, if the place is a slot
abbrev pub KnowsKeyAt : List Read → At → Type 0
KnowsKeyAt reads (Head b) = Unit {0}
KnowsKeyAt reads (Slot s) = IsSome (key_in reads s)

-- the key of what a link names is checked, if it names a slot
abbrev pub KnowsKeyOf : List Read → Option ℕ → Type 0
KnowsKeyOf reads None = Unit {0}
KnowsKeyOf reads (Some s) = IsSome (key_in reads s)

-- a value is known if nodes have values, as the test says
abbrev pub HasValue : Bool → Option ℕ → Type 0
HasValue true value = IsSome value
HasValue false value = Unit {0}

-- a value is known if the operation is one that gives it
abbrev pub HasValueFor : Op → Option ℕ → Type 0
HasValueFor Get value = IsSome value
HasValueFor _ value = Unit {0}

-- past a slot whose marked link is checked to what that link names; another slot isn't passed
abbrev pub past_slot : ℕ → Option Link → Option ℕ
past_slot s None = Some s
past_slot s (Some link) = link.slot

-- past the slot that a link names, if it names one
abbrev pub past_marked : List Read → Option ℕ → Option ℕ
past_marked reads None = None
past_marked reads (Some s) = past_slot s (marked_in reads s)

-- where checked marked links lead in so many turns from what a link names
abbrev pub after_turns : List Read → ℕ → Option ℕ → Option ℕ
after_turns reads zero next = next
after_turns reads (suc turns) next = past_marked reads (after_turns reads turns next)

-- in at most so many turns they lead to none, or to a slot whose key is checked
pub record LeadsToKey (most : ℕ) (reads : List Read) (next : Option ℕ) : Type 0 where
  pub turns : ℕ
  pub within : turns ≤ most
  pub known : KnowsKeyOf reads (after_turns reads turns next)

-- the slot that a marked link of a slot names, if one is checked
abbrev pub next_of_marked : Option Link → Option ℕ
next_of_marked None = None
next_of_marked (Some link) = link.slot

-- the reads that the step asks for are checked
abbrev pub HasChecked : Start → Know → Step → Type 0
HasChecked start know (StoreLink s next) = IsNextHeld know.checked next
HasChecked start know (LoadLink place) = IsTrue (holds_at know.checked place)
HasChecked start know (LoadBirth s) = IsTrue (holds know.checked s)
HasChecked start know (LoadKey s) = IsTrue (holds know.checked s)
HasChecked start know (LoadValue s) = IsTrue (holds know.checked s)
HasChecked start know (Publish pred expected s) =
    IsTrue (knows_link know.checked pred (link_of expected))
    × (IsSome (birth_at know.checked pred) × KnowsKeyAt know.checked pred)
    × (IsSome (birth_of know.checked (link_of expected).slot) × KnowsKeyOf know.checked (link_of expected).slot)
HasChecked start know (Mark s expected) = IsTrue (knows_link know.checked (Slot s) (link_of expected)) × IsSome (key_in know.checked s) × HasValue start.shape.values (value_in know.checked s)
HasChecked start know (Replace s expected t) =
    IsTrue (knows_link know.checked (Slot s) (link_of expected))
    × (IsSome (birth_in know.checked s) × IsSome (key_in know.checked s) × IsSome (value_in know.checked s))
    × IsSome (birth_of know.checked (link_of expected).slot)
HasChecked start know (Unlink pred expected s) =
    IsTrue (knows_link know.checked pred (link_of expected))
    × IsSome (marked_in know.checked s)
    × IsSome (birth_at know.checked pred)
    × IsSome (birth_of know.checked (next_of_marked (marked_in know.checked s)))
HasChecked start know (ConfirmPresent op s expected) = IsTrue (knows_link know.checked (Slot s) (link_of expected)) × IsSome (key_in know.checked s) × HasValueFor op (value_in know.checked s)
HasChecked start know (ConfirmAbsent op key place expected) =
    IsTrue (knows_link know.checked place (link_of expected)) × KnowsKeyAt know.checked place × LeadsToKey start.shape.slots know.checked (link_of expected).slot
HasChecked start know _ = Unit {0}

-- ---- the numbers

-- the key stands behind a place: in its bucket, and above its key if it is a slot
abbrev pub IsBehind : Start → List Read → At → ℕ → Type 0
IsBehind start reads (Head b) key = bucket_of start.shape key ≡ b
IsBehind start reads (Slot s) key = (bucket_of start.shape key ≡ bucket_of start.shape (unwrap_or (key_in reads s) 0)) × (unwrap_or (key_in reads s) 0 < key)

-- the key stands before what a link names, if it names a slot
abbrev pub IsBefore : List Read → ℕ → Option ℕ → Type 0
IsBefore reads key None = Unit {0}
IsBefore reads key (Some s) = key < unwrap_or (key_in reads s) 0

-- in at most so many turns checked marked links lead from what a link names to none, or to a slot before which the key stands
pub record LeadsAbove (most : ℕ) (reads : List Read) (key : ℕ) (next : Option ℕ) : Type 0 where
  pub turns : ℕ
  pub within : turns ≤ most
  pub before : IsBefore reads key (after_turns reads turns next)

-- the slot was unlinked, and the pass has read the epoch since
abbrev pub IsReread : Option Holding → Type 0
IsReread (Some (Unlinked true)) = Unit {0}
IsReread _ = ⊥

-- the stamp of a slot that may be born in
abbrev pub stamp_in : Option Holding → ℕ
stamp_in (Some (Free stamp)) = stamp
stamp_in (Some (InHand known)) = known.stamp
stamp_in _ = 0

-- what is in hand is ready: its key and link, and if nodes have values its value, were stored since its birth, the link names what the expected link names, and the key stands between
pub record IsReady (start : Start) (reads : List Read) (pred : At) (expected : Link) (known : Unpublished) : Type 0 where
  pub key : ℕ
  pub key_is : known.key ≡ Some key
  pub link_is : known.link ≡ Some (link_to expected.slot known.birth (unwrap_or (birth_of reads expected.slot) 0))
  pub behind : IsBehind start reads pred key
  pub before : IsBefore reads key expected.slot
  pub valued : HasValue start.shape.values known.value

-- a slot in hand that is ready
abbrev pub MayPublish : Start → List Read → At → Link → Option Holding → Type 0
MayPublish start reads pred expected (Some (InHand known)) = IsReady start reads pred expected known
MayPublish start reads pred expected _ = ⊥

-- what is in hand is ready to take the place of the node of a slot: its key, which is that node's, its link, which names what the expected link names, and its value were stored since its birth
pub record IsReadyInPlace (start : Start) (reads : List Read) (s : ℕ) (expected : Link) (known : Unpublished) : Type 0 where
  pub key_is : known.key ≡ Some (unwrap_or (key_in reads s) 0)
  pub link_is : known.link ≡ Some (link_to expected.slot known.birth (unwrap_or (birth_of reads expected.slot) 0))
  pub valued : HasValue start.shape.values known.value

-- a slot in hand that is ready so
abbrev pub MayReplace : Start → List Read → ℕ → Link → Option Holding → Type 0
MayReplace start reads s expected (Some (InHand known)) = IsReadyInPlace start reads s expected known
MayReplace start reads s expected _ = ⊥

-- the step's numbers are in range
abbrev pub IsInRange : Start → Know → Step → Type 0
IsInRange start know (Advance from) = 1 ≤ from
IsInRange start know (StoreStamp s stamp) = IsReread (know.own s) × (stamp ≡ know.epoch)
IsInRange start know (StoreBirth s birth) = (birth ≡ know.epoch) × (stamp_in (know.own s) < birth)
IsInRange start know (Publish pred expected s) = ((link_of expected).mark ≡ false) × MayPublish start know.checked pred (link_of expected) (know.own s)
IsInRange start know (Mark s expected) = (link_of expected).mark ≡ false
IsInRange start know (Replace s expected t) = ((link_of expected).mark ≡ false) × MayReplace start know.checked s (link_of expected) (know.own t)
IsInRange start know (Unlink pred expected s) = ((link_of expected).mark ≡ false) × ((link_of expected).slot ≡ Some s)
IsInRange start know (ConfirmPresent op s expected) = ((link_of expected).mark ≡ false) × (op ≢ Remove)
IsInRange start know (ConfirmAbsent op key place expected) =
    ((link_of expected).mark ≡ false) × (op ≢ Insert) × IsBehind start know.checked place key × LeadsAbove start.shape.slots know.checked key (link_of expected).slot
IsInRange start know _ = Unit {0}

-- the epoch that the step would advance is below the last
abbrev pub IsBelowLast : Start → Step → Type 0
IsBelowLast start (Advance from) = from < start.shape.last_epoch
IsBelowLast start _ = Unit {0}

-- ---- acceptance

-- the machine accepts the step of a pass that knows this
pub record Accepts (start : Start) (know : Know) (step : Step) : Type 0 where
  pub in_shape : IsInShape start step
  pub owned : IsOwned know step
  pub held : HasChecked start know step
  pub in_range : IsInRange start know step
  pub below_last : IsBelowLast start step

-- the key stands between a place and the very slot that its link names, if it names one, by a checked link and checked keys
pub record IsBetween (start : Start) (reads : List Read) (key : ℕ) (place : At) (link : Link) : Type 0 where
  pub known : IsTrue (knows_link reads place link)
  pub here : KnowsKeyAt reads place
  pub there : KnowsKeyOf reads link.slot
  pub unmarked : link.mark ≡ false
  pub behind : IsBehind start reads place key
  pub before : IsBefore reads key link.slot
