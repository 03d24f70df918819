-- What a pass knows by membership: whatever is among its checked reads, and not only the first that a search finds.
use Rattle.std.specs.Prelude.{◌≡◌, ◌≢◌, ℕ, ◌<◌, Bool, true, false, Option, Some, None}
use Rattle.std.specs.List.{Contains}
use Rattle.vbr_machine.specs.Start.{Start}
use Rattle.vbr_words.specs.Words.{link_of}
use Rattle.vbr_words.specs.declared.link.Link.{Link}
use Rattle.vbr_words.specs.declared.place.At.{At}
use Rattle.vbr_words.specs.declared.place.At.TheVariants.{Head, Slot}
use Rattle.vbr_machine.specs.Links.{link_to}
use Rattle.vbr_machine.specs.Knowledge.{Know}
use Rattle.vbr_words.specs.Buckets.{bucket_of}
use Rattle.vbr_machine.specs.Acceptance.{HasValue, IsInShape, IsOwned, IsInRange, IsBelowLast}
use Rattle.vbr_machine.specs.declared.history.Op.{Op}
use Rattle.vbr_machine.specs.declared.history.Op.TheVariants.{Insert, Get}
use Rattle.vbr_machine.specs.declared.event.Step.{Step}
use Rattle.vbr_machine.specs.declared.event.Step.TheVariants.{StoreLink, LoadLink, LoadBirth, LoadKey, LoadValue, Publish, Mark, Replace, Unlink, ConfirmPresent, ConfirmAbsent}
use Rattle.vbr_machine.specs.declared.knowledge.Read.{Read}
use Rattle.vbr_machine.specs.declared.knowledge.Read.TheVariants.{LinkAt, BirthOf, KeyOf, ValueOf}
use Rattle.vbr_machine.specs.declared.knowledge.Unpublished.{Unpublished}
use Rattle.vbr_machine.specs.declared.knowledge.Holding.{Holding}
use Rattle.vbr_machine.specs.declared.knowledge.Holding.TheVariants.{InHand}

-- a read is known: it is among the checked reads
pub record Knows (know : Know) (read : Read) : Type 0 where
  pub among : Contains know.checked read

-- ---- held

-- a slot is held: a known link names it
pub record IsHeldSlot (know : Know) (s : ℕ) : Type 0 where
  pub place : At
  pub link : Link
  pub known : Knows know (LinkAt place link)
  pub names : link.slot ≡ Some s

-- a place is held: a head always is
abbrev pub IsHeldPlace : Know → At → Type 0
IsHeldPlace know (Head b) = Unit {0}
IsHeldPlace know (Slot s) = IsHeldSlot know s

-- a place is held in a bucket: the head of the bucket is, and so is a slot that is named by a known link at a place that is held in the bucket
pub data HeldIn (know : Know) : At → ℕ → Type 0 where
  at_head : (b : ℕ) → HeldIn know (Head b) b
  at_slot : (place : At) → (link : Link) → (s : ℕ) → (b : ℕ) → HeldIn know place b → Knows know (LinkAt place link) → link.slot ≡ Some s → HeldIn know (Slot s) b

-- known marked links lead from a link to another: to itself, and to a known marked link of the slot that is named by one to which they lead
pub data LeadsTo (know : Know) (link : Link) : Link → Type 0 where
  itself : LeadsTo know link link
  onward : (last : Link) → (s : ℕ) → (next : Link) → LeadsTo know link last → last.slot ≡ Some s → Knows know (LinkAt (Slot s) next) → next.mark ≡ true → LeadsTo know link next

-- ---- births and keys

-- this birth is known at a place: 0 at a head
abbrev pub BirthAt : Know → At → ℕ → Type 0
BirthAt know (Head b) birth = birth ≡ 0
BirthAt know (Slot s) birth = Knows know (BirthOf s birth)

-- this birth is known of what a link names: 0 of none
abbrev pub BirthNamed : Know → Option ℕ → ℕ → Type 0
BirthNamed know None birth = birth ≡ 0
BirthNamed know (Some s) birth = Knows know (BirthOf s birth)

-- this key is known at a place: none is at a head
abbrev pub KeyAt : Know → At → ℕ → Type 0
KeyAt know (Head b) key = ⊥
KeyAt know (Slot s) key = Knows know (KeyOf s key)

-- a key stands behind a place: in its bucket, and above a key that is known there if it is a slot
abbrev pub StandsBehind : Start → Know → At → ℕ → Type 0
StandsBehind start know (Head b) key = bucket_of start.shape key ≡ b
StandsBehind start know (Slot s) key = (here : ℕ) × Knows know (KeyOf s here) × (bucket_of start.shape key ≡ bucket_of start.shape here) × (here < key)

-- a key stands before what a link names: below a key that is known of it, if it names a slot
abbrev pub StandsBefore : Know → ℕ → Option ℕ → Type 0
StandsBefore know key None = Unit {0}
StandsBefore know key (Some s) = (there : ℕ) × Knows know (KeyOf s there) × (key < there)

-- a key stands before what known marked links lead to from a link
pub record StandsBeforeOn (know : Know) (key : ℕ) (link : Link) : Type 0 where
  pub last : Link
  pub leads : LeadsTo know link last
  pub before : StandsBefore know key last.slot

-- ---- what is written

-- an unlinking behind a place writes this link: to what a known marked link of the slot names, by births that are known at the place and of what is named
pub record IsUnlinkLink (know : Know) (pred : At) (s : ℕ) (new : Link) : Type 0 where
  pub frozen : Link
  pub known : Knows know (LinkAt (Slot s) frozen)
  pub is_marked : frozen.mark ≡ true
  pub birth : ℕ
  pub birth_known : BirthAt know pred birth
  pub next_birth : ℕ
  pub next_known : BirthNamed know frozen.slot next_birth
  pub is : new ≡ link_to frozen.slot birth next_birth

-- ---- acceptance

-- what a link names, if anything, is held, and a birth of it is known
abbrev pub IsNextKnown : Know → Option ℕ → Type 0
IsNextKnown know None = Unit {0}
IsNextKnown know (Some s) = IsHeldSlot know s × ((birth : ℕ) × Knows know (BirthOf s birth))

-- a value of a slot is known if nodes have values, as the test says
abbrev pub KnowsValue : Bool → Know → ℕ → Type 0
KnowsValue true know s = (value : ℕ) × Knows know (ValueOf s value)
KnowsValue false know s = Unit {0}

-- a value of a slot is known if the operation is one that gives it
abbrev pub KnowsValueFor : Op → Know → ℕ → Type 0
KnowsValueFor Get know s = (value : ℕ) × Knows know (ValueOf s value)
KnowsValueFor _ know s = Unit {0}

-- the reads that the step asks for are known
abbrev pub IsKnown : Start → Know → Step → Type 0
IsKnown start know (StoreLink s next) = IsNextKnown know next
IsKnown start know (LoadLink place) = IsHeldPlace know place
IsKnown start know (LoadBirth s) = IsHeldSlot know s
IsKnown start know (LoadKey s) = IsHeldSlot know s
IsKnown start know (LoadValue s) = IsHeldSlot know s
IsKnown start know (Publish pred expected s) = Knows know (LinkAt pred (link_of expected)) × ((birth : ℕ) × BirthAt know pred birth)
IsKnown start know (Mark s expected) = Knows know (LinkAt (Slot s) (link_of expected)) × ((key : ℕ) × Knows know (KeyOf s key)) × KnowsValue start.shape.values know s
IsKnown start know (Replace s expected t) = Knows know (LinkAt (Slot s) (link_of expected)) × ((birth : ℕ) × Knows know (BirthOf s birth)) × ((value : ℕ) × Knows know (ValueOf s value))
IsKnown start know (Unlink pred expected s) = Knows know (LinkAt pred (link_of expected)) × ((new : Link) × IsUnlinkLink know pred s new)
IsKnown start know (ConfirmPresent op s expected) = Knows know (LinkAt (Slot s) (link_of expected)) × ((key : ℕ) × Knows know (KeyOf s key)) × KnowsValueFor op know s
IsKnown start know (ConfirmAbsent op key place expected) = Knows know (LinkAt place (link_of expected))
IsKnown start know _ = Unit {0}

-- what is in hand is ready: its key and link, and if nodes have values its value, were stored since its birth, the link names what the expected link names, by a birth that is known of that, and the key stands between
pub record IsReadyKnown (start : Start) (know : Know) (pred : At) (expected : Link) (known : Unpublished) : Type 0 where
  pub key : ℕ
  pub key_is : known.key ≡ Some key
  pub named : ℕ
  pub named_known : BirthNamed know expected.slot named
  pub link_is : known.link ≡ Some (link_to expected.slot known.birth named)
  pub behind : StandsBehind start know pred key
  pub before : StandsBefore know key expected.slot
  pub valued : HasValue start.shape.values known.value

-- a slot in hand that is ready
abbrev pub MayPublishKnown : Start → Know → At → Link → Option Holding → Type 0
MayPublishKnown start know pred expected (Some (InHand known)) = IsReadyKnown start know pred expected known
MayPublishKnown start know pred expected _ = ⊥

-- what is in hand is ready to take the place of the node of a slot: its key, which is known of the slot, its link, which names what the expected link names, by a birth that is known of that, and its value were stored since its birth
pub record IsReadyInPlaceKnown (start : Start) (know : Know) (s : ℕ) (expected : Link) (known : Unpublished) : Type 0 where
  pub key : ℕ
  pub key_known : Knows know (KeyOf s key)
  pub key_is : known.key ≡ Some key
  pub named : ℕ
  pub named_known : BirthNamed know expected.slot named
  pub link_is : known.link ≡ Some (link_to expected.slot known.birth named)
  pub valued : HasValue start.shape.values known.value

-- a slot in hand that is ready so
abbrev pub MayReplaceKnown : Start → Know → ℕ → Link → Option Holding → Type 0
MayReplaceKnown start know s expected (Some (InHand known)) = IsReadyInPlaceKnown start know s expected known
MayReplaceKnown start know s expected _ = ⊥

-- the step's numbers are in range
abbrev pub IsInRangeKnown : Start → Know → Step → Type 0
IsInRangeKnown start know (Publish pred expected s) = ((link_of expected).mark ≡ false) × MayPublishKnown start know pred (link_of expected) (know.own s)
IsInRangeKnown start know (Replace s expected t) = ((link_of expected).mark ≡ false) × MayReplaceKnown start know s (link_of expected) (know.own t)
IsInRangeKnown start know (ConfirmAbsent op key place expected) =
    ((link_of expected).mark ≡ false) × (op ≢ Insert) × StandsBehind start know place key × StandsBeforeOn know key (link_of expected)
IsInRangeKnown start know step = IsInRange start know step

-- the machine accepts the step of a pass that knows this: as acceptance by searches, but any known key, birth or marked link serves
pub record AcceptsKnown (start : Start) (know : Know) (step : Step) : Type 0 where
  pub in_shape : IsInShape start step
  pub owned : IsOwned know step
  pub known : IsKnown start know step
  pub in_range : IsInRangeKnown start know step
  pub below_last : IsBelowLast start step
