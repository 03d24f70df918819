-- What holds of the incarnations after every lawful chronicle.
use Rattle.std.specs.Prelude.{◌≡◌, ℕ, ◌<◌, ◌≤◌, true, Option, Some, None, ◌⊎◌}
use Rattle.vbr_machine.specs.Start.{Start}
use Rattle.vbr_words.specs.declared.link.Link.{Link}
use Rattle.vbr_words.specs.Buckets.{bucket_of}
use Rattle.vbr_machine.specs.Opened.{opening_keys, opening_payloads}
use Rattle.vbr_machine.specs.History.{IsLegal, set_after, GiveStored, values_after}
use Rattle.vbr_machine.specs.Incarnations.{State, Unborn, InHand, GivenUp, Linked, Marked, Unlinked, Stamped, Incarnations, payload_of, IsLate}
use Rattle.vbr_machine.specs.declared.knowledge.SlotPlace.{SlotPlace}
use Rattle.vbr_machine.specs.declared.knowledge.SlotPlace.TheVariants.{Shared, Own, Hand, Listed}

-- ---- states

-- in a list: linked or marked
abbrev pub IsListed : State → Type 0
IsListed Linked = Unit {0}
IsListed Marked = Unit {0}
IsListed _ = ⊥

-- inserted: linked, or anything that comes after
abbrev pub IsInserted : State → Type 0
IsInserted Linked = Unit {0}
IsInserted Marked = Unit {0}
IsInserted (Unlinked pass unlinked) = Unit {0}
IsInserted (Stamped unlinked stamp) = Unit {0}
IsInserted _ = ⊥

-- removed: marked, or anything that comes after
abbrev pub IsRemoved : State → Type 0
IsRemoved Marked = Unit {0}
IsRemoved (Unlinked pass unlinked) = Unit {0}
IsRemoved (Stamped unlinked stamp) = Unit {0}
IsRemoved _ = ⊥

-- done with before a birth in its slot: stamped below that birth, or given up
abbrev pub IsPassed : State → ℕ → Type 0
IsPassed (Stamped unlinked stamp) birth = stamp < birth
IsPassed GivenUp birth = Unit {0}
IsPassed _ birth = ⊥

-- the birth, the epoch of the unlinking, the stamp and the epoch follow one another, as far as the state has them
abbrev pub TimesFit : State → ℕ → ℕ → Type 0
TimesFit Unborn birth epoch = Unit {0}
TimesFit (Unlinked pass unlinked) birth epoch = (birth ≤ unlinked) × (unlinked ≤ epoch)
TimesFit (Stamped unlinked stamp) birth epoch = (birth ≤ unlinked) × (unlinked ≤ stamp) × (stamp ≤ epoch)
TimesFit _ birth epoch = birth ≤ epoch

-- the stamp of its slot is no less than that of a stamped incarnation, and below the birth of one that may still be stamped
abbrev pub StampFits : State → ℕ → ℕ → Type 0
StampFits (Stamped unlinked own) birth stamp = own ≤ stamp
StampFits Unborn birth stamp = Unit {0}
StampFits GivenUp birth stamp = Unit {0}
StampFits _ birth stamp = stamp < birth

-- the link that the last incarnation of a slot shows before it is linked is marked, or has a version above the slot's stamp
abbrev pub LinkFits : State → Link → ℕ → Type 0
LinkFits Unborn link stamp = ⊥
LinkFits (InHand pass) link stamp = (link.mark ≡ true) ⊎ (stamp < link.version)
LinkFits GivenUp link stamp = (link.mark ≡ true) ⊎ (stamp < link.version)
LinkFits _ link stamp = Unit {0}

-- the place of a slot fits its last incarnation, which is in this state and has this key
abbrev pub PlaceFits : Start → SlotPlace → State → ℕ → Type 0
PlaceFits start Shared (Stamped unlinked stamp) key = Unit {0}
PlaceFits start Shared GivenUp key = Unit {0}
PlaceFits start (Own pass) (Stamped unlinked stamp) key = Unit {0}
PlaceFits start (Own pass) GivenUp key = Unit {0}
PlaceFits start (Own pass) (Unlinked by unlinked) key = by ≡ pass
PlaceFits start (Hand pass) (InHand by) key = by ≡ pass
PlaceFits start (Hand pass) GivenUp key = Unit {0}
PlaceFits start (Listed b) Linked key = bucket_of start.shape key ≡ b
PlaceFits start (Listed b) Marked key = bucket_of start.shape key ≡ b
PlaceFits start _ _ key = ⊥

-- a slot that nothing was born in yet is in the shared pool or a pass's own
abbrev pub IsUnused : SlotPlace → Type 0
IsUnused Shared = Unit {0}
IsUnused (Own pass) = Unit {0}
IsUnused _ = ⊥

-- ---- the invariant

-- the slots and their incarnations after a lawful chronicle
pub record SlotsSound (start : Start) (a : Incarnations) : Type 0 where
  pub last_born : (s c : ℕ) → a.last s ≡ Some c → (c < a.count) × (a.slot c ≡ s)  -- the last incarnation of a slot was born in it
  pub has_last : (c : ℕ) → c < a.count → (l : ℕ) × (a.last (a.slot c) ≡ Some l) × (c ≤ l)  -- and none in it was born later
  pub unborn : (c : ℕ) → a.count ≤ c → a.state c ≡ Unborn
  pub passed : (c d : ℕ) → c < d → d < a.count → a.slot c ≡ a.slot d → IsPassed (a.state c) (a.birth d)
  pub born : (c : ℕ) → c < a.count → a.birth c ≤ a.epoch
  pub times : (c : ℕ) → TimesFit (a.state c) (a.birth c) a.epoch
  pub stamps : (c : ℕ) → StampFits (a.state c) (a.birth c) (a.stamp (a.slot c))
  pub links : (c s : ℕ) → a.last s ≡ Some c → LinkFits (a.state c) (a.link c) (a.stamp s)
  pub unused : (s : ℕ) → a.last s ≡ None → IsUnused (a.place s)
  pub placed : (c s : ℕ) → a.last s ≡ Some c → PlaceFits start (a.place s) (a.state c) (a.key c)

-- an incarnation stands ahead of another in the order of lists: it has a smaller key, or the same key and a smaller rank
abbrev pub IsOrderedBefore : (ℕ → ℕ) → (ℕ → ℕ) → ℕ → ℕ → Type 0
IsOrderedBefore keys ranks c d = (keys c < keys d) ⊎ ((keys c ≡ keys d) × (ranks c < ranks d))

-- there is a successor, and this incarnation doesn't stand ahead of it
abbrev pub IsFrom : (ℕ → ℕ) → (ℕ → ℕ) → Option ℕ → ℕ → Type 0
IsFrom keys ranks next d = (n : ℕ) × (next ≡ Some n) × ((keys n < keys d) ⊎ ((keys n ≡ keys d) × (ranks n ≤ ranks d)))

-- against an incarnation c and its successor, d is c itself, stands ahead of c, or not ahead of the successor; so it is not between them
abbrev pub IsApart : (ℕ → ℕ) → (ℕ → ℕ) → ℕ → Option ℕ → ℕ → Type 0
IsApart keys ranks c next d = (d ≡ c) ⊎ (IsOrderedBefore keys ranks d c ⊎ IsFrom keys ranks next d)

-- the lists of the buckets after a lawful chronicle: each begins with the first of its bucket, and is strictly ascending by key and rank; what is linked has a smaller key than its successor
pub record ListsSound (start : Start) (a : Incarnations) : Type 0 where
  pub handed : (c n e : ℕ) → a.next c ≡ Some n → IsLate (a.state c) e → IsLate (a.state n) e  -- what is late for an epoch has a successor that is late for it
  pub inserted : (c n : ℕ) → a.next c ≡ Some n → IsInserted (a.state c) × IsInserted (a.state n)
  pub ordered : (c n : ℕ) → a.next c ≡ Some n → (bucket_of start.shape (a.key c) ≡ bucket_of start.shape (a.key n)) × IsOrderedBefore a.key a.rank c n
  pub strict : (c n : ℕ) → a.next c ≡ Some n → a.state c ≡ Linked → a.key c < a.key n
  pub first_in : (b n : ℕ) → a.first b ≡ Some n → IsListed (a.state n) × (bucket_of start.shape (a.key n) ≡ b)
  pub apart : (c d : ℕ) → IsListed (a.state c) → IsListed (a.state d) → bucket_of start.shape (a.key c) ≡ bucket_of start.shape (a.key d) → IsApart a.key a.rank c (a.next c) d
  pub behind_head : (d : ℕ) → IsListed (a.state d) → IsFrom a.key a.rank (a.first (bucket_of start.shape (a.key d))) d

-- the invariant of the incarnations after a lawful chronicle
pub record Sound (start : Start) (a : Incarnations) : Type 0 where
  pub slots : SlotsSound start a
  pub lists : ListsSound start a

-- ---- the calls

-- the calls are legal from the opening keys, and the set after them has just the keys of the linked incarnations; the calls give the values that were stored, and the values after them are those of the linked incarnations
pub record Tells (start : Start) (a : Incarnations) : Type 0 where
  pub legal : IsLegal (opening_keys start) a.calls
  pub there : (c : ℕ) → a.state c ≡ Linked → set_after (opening_keys start) a.calls (a.key c) ≡ true
  pub only : (key : ℕ) → set_after (opening_keys start) a.calls key ≡ true → (c : ℕ) × (a.state c ≡ Linked) × (a.key c ≡ key)
  pub values : GiveStored (opening_payloads start) a.calls
  pub stored : (c : ℕ) → a.state c ≡ Linked → values_after (opening_payloads start) a.calls (a.key c) ≡ payload_of start a c

-- ---- what stays

-- incarnations b come after a: what was born keeps its slot and its birth, what was inserted its key, its value and its rank, what was late stays late, and what was removed keeps its successor
pub record Grows (a b : Incarnations) : Type 0 where
  pub epoch : a.epoch ≤ b.epoch
  pub count : a.count ≤ b.count
  pub slot : (c : ℕ) → c < a.count → b.slot c ≡ a.slot c
  pub birth : (c : ℕ) → c < a.count → b.birth c ≡ a.birth c
  pub key : (c : ℕ) → IsInserted (a.state c) → b.key c ≡ a.key c
  pub value : (c : ℕ) → IsInserted (a.state c) → b.value c ≡ a.value c
  pub rank : (c : ℕ) → IsInserted (a.state c) → b.rank c ≡ a.rank c
  pub late : (c e : ℕ) → e ≤ a.epoch → IsLate (a.state c) e → IsLate (b.state c) e
  pub removed : (c : ℕ) → IsRemoved (a.state c) → IsRemoved (b.state c) × (b.next c ≡ a.next c)
