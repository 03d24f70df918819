-- The events of a chronicle: when each is allowed, and what it makes.
use Rattle.std.specs.Prelude.{◌≡◌, ◌≢◌, ℕ, ◌+◌, ◌<◌, ◌≤◌, Bool, true, false, List, [], ◌∷◌, ◌++◌, Option, Some, None, ◌==◌, filter}
use Rattle.vbr_machine.specs.Start.{Start}
use Rattle.vbr_words.specs.declared.link.Link.{Link}
use Rattle.vbr_machine.specs.Put.{put}
use Rattle.vbr_machine.specs.Keys.{Keys}
use Rattle.vbr_words.specs.Buckets.{bucket_of}
use Rattle.vbr_machine.specs.Opened.{opening_payloads}
use Rattle.vbr_machine.specs.History.{reply_of, set_after, values_after, GivesValue}
use Rattle.vbr_machine.specs.Incarnations.{State, InHand, GivenUp, Linked, Marked, Unlinked, Stamped, Incarnations, payload_of}
use Rattle.vbr_machine.specs.Images.{link_to_next, key_shown, value_shown, link_shown}
use Rattle.vbr_machine.specs.declared.history.Call.{Call}
use Rattle.vbr_machine.specs.declared.history.Op.{Op}
use Rattle.vbr_machine.specs.declared.history.Op.TheVariants.{Insert, Remove, Has, Get}
use Rattle.vbr_machine.specs.declared.knowledge.SlotPlace.{SlotPlace}
use Rattle.vbr_machine.specs.declared.knowledge.SlotPlace.TheVariants.{Shared, Own, Hand, Listed}

-- what stands before a node in a list: the head of a bucket, or an incarnation
pub data Before : Type 0 where
  AtHead : (bucket : ℕ) → Before
  AtNode : (node : ℕ) → Before

-- what happens: the epoch advances; a pass gains, probes or raises a slot; an incarnation is given up, born, keyed, valued, aimed, linked, marked, replaced by another, unlinked or stamped; a call that changes nothing is answered
pub data Happening : Type 0 where
  Advances : Happening
  Gains : (slot : ℕ) → Happening
  Probes : (slot : ℕ) → Happening
  Raises : (slot : ℕ) → Happening
  GivesUp : (node : ℕ) → Happening
  Bears : (slot : ℕ) → (birth : ℕ) → Happening
  Keyed : (node : ℕ) → (key : ℕ) → Happening
  Valued : (node : ℕ) → (value : ℕ) → Happening
  Aims : (node : ℕ) → (link : Link) → Happening
  Inserts : (node : ℕ) → (behind : Before) → Happening
  Removes : (node : ℕ) → Happening
  Replaces : (old : ℕ) → (node : ℕ) → Happening
  Unlinks : (node : ℕ) → (behind : Before) → Happening
  Stamps : (node : ℕ) → (stamp : ℕ) → Happening
  Confirms : (call : Call) → Happening

-- an event of a chronicle: what happens, and by which pass
pub record Entry : Type 0 where
  pub pass : ℕ
  pub what : Happening

-- ---- when an event is allowed

-- dead: stamped, or given up
abbrev pub IsDead : State → Type 0
IsDead (Stamped unlinked stamp) = Unit {0}
IsDead GivenUp = Unit {0}
IsDead _ = ⊥

-- nothing was born in the slot yet, or its last incarnation is dead
abbrev pub IsLastDead : Incarnations → Option ℕ → Type 0
IsLastDead a None = Unit {0}
IsLastDead a (Some c) = IsDead (a.state c)

-- the last incarnation of the slot was given up
abbrev pub IsGivenUp : Incarnations → Option ℕ → Type 0
IsGivenUp a None = ⊥
IsGivenUp a (Some c) = a.state c ≡ GivenUp

-- a slot at this place may be born in or raised: it is the pass's own and dead, or in its hand and just given up
abbrev pub MayBeBornIn : Incarnations → ℕ → ℕ → SlotPlace → Type 0
MayBeBornIn a pass s (Own p) = (p ≡ pass) × IsLastDead a (a.last s)
MayBeBornIn a pass s (Hand p) = (p ≡ pass) × IsGivenUp a (a.last s)
MayBeBornIn a pass s _ = ⊥

-- the successor of what stands before
abbrev pub next_of : Incarnations → Before → Option ℕ
next_of a (AtHead b) = a.first b
next_of a (AtNode c) = a.next c

-- what stands before is a head, or linked
abbrev pub IsOpen : Incarnations → Before → Type 0
IsOpen a (AtHead b) = Unit {0}
IsOpen a (AtNode c) = a.state c ≡ Linked

-- a key belongs behind what stands before: in the same bucket, and above its key
abbrev pub BelongsBehind : Start → Incarnations → Before → ℕ → Type 0
BelongsBehind start a (AtHead b) key = bucket_of start.shape key ≡ b
BelongsBehind start a (AtNode c) key = (bucket_of start.shape key ≡ bucket_of start.shape (a.key c)) × (a.key c < key)

-- a key belongs before a successor, if there is one
abbrev pub BelongsBefore : Incarnations → ℕ → Option ℕ → Type 0
BelongsBefore a key None = Unit {0}
BelongsBefore a key (Some c) = key < a.key c

-- an incarnation may be linked behind what stands before
pub record MayInsert (start : Start) (a : Incarnations) (pass node : ℕ) (behind : Before) : Type 0 where
  pub in_hand : a.state node ≡ InHand pass
  pub keyed : a.is_keyed node ≡ true
  pub aimed : a.is_aimed node ≡ true
  pub is_open : IsOpen a behind
  pub link : a.link node ≡ link_to_next a (a.birth node) (next_of a behind)
  pub above : BelongsBehind start a behind (a.key node)
  pub below : BelongsBefore a (a.key node) (next_of a behind)
  pub valued : start.shape.values ≡ true → a.is_valued node ≡ true

-- an incarnation may be linked in place of a linked one that has its key
pub record MayTakePlace (start : Start) (a : Incarnations) (pass old node : ℕ) : Type 0 where
  pub in_hand : a.state node ≡ InHand pass
  pub keyed : a.is_keyed node ≡ true
  pub aimed : a.is_aimed node ≡ true
  pub linked : a.state old ≡ Linked
  pub link : a.link node ≡ link_to_next a (a.birth node) (a.next old)
  pub same : a.key node ≡ a.key old
  pub valued : start.shape.values ≡ true → a.is_valued node ≡ true

-- an incarnation that the pass unlinked may be stamped with an epoch since then
abbrev pub MayStamp : State → ℕ → ℕ → ℕ → Type 0
MayStamp (Unlinked by unlinked) pass stamp epoch = (by ≡ pass) × (unlinked ≤ stamp) × (stamp ≤ epoch)
MayStamp _ pass stamp epoch = ⊥

-- a call that changes nothing: a look-up, an insert answered no, or a remove answered no
abbrev pub ChangesNothing : Op → Bool → Type 0
ChangesNothing Has reply = Unit {0}
ChangesNothing Get reply = Unit {0}
ChangesNothing op reply = reply ≡ false

-- an event is allowed after a chronicle that has made these incarnations; the set of keys is the one that the history opened with
abbrev pub Allowed : Start → Keys → Incarnations → ℕ → Happening → Type 0
Allowed start keys a pass Advances = a.epoch < start.shape.last_epoch
Allowed start keys a pass (Gains s) = a.place s ≡ Shared
Allowed start keys a pass (Probes s) = a.place s ≢ Shared
Allowed start keys a pass (Raises s) = MayBeBornIn a pass s (a.place s)
Allowed start keys a pass (GivesUp c) = a.state c ≡ InHand pass
Allowed start keys a pass (Bears s birth) = MayBeBornIn a pass s (a.place s) × (a.stamp s < birth) × (birth ≤ a.epoch)
Allowed start keys a pass (Keyed c key) = a.state c ≡ InHand pass
Allowed start keys a pass (Valued c value) = (a.state c ≡ InHand pass) × (start.shape.values ≡ true)
Allowed start keys a pass (Aims c link) = (a.state c ≡ InHand pass) × (link.mark ≡ false) × (a.birth c ≤ link.version)
Allowed start keys a pass (Inserts c behind) = MayInsert start a pass c behind
Allowed start keys a pass (Removes c) = a.state c ≡ Linked
Allowed start keys a pass (Replaces old c) = MayTakePlace start a pass old c
Allowed start keys a pass (Unlinks c behind) = (a.state c ≡ Marked) × IsOpen a behind × (next_of a behind ≡ Some c)
Allowed start keys a pass (Stamps c stamp) = MayStamp (a.state c) pass stamp a.epoch
Allowed start keys a pass (Confirms call) =
    (call.who ≡ pass) × ChangesNothing call.op call.reply × (call.reply ≡ reply_of (set_after keys a.calls) call.op call.key)
    × GivesValue (values_after (opening_payloads start) a.calls) call.op call.key call.reply call.value

-- ---- what an event makes

-- the calls that an event makes
abbrev pub calls_made : Start → Incarnations → ℕ → Happening → List Call
calls_made start a pass (Inserts c behind) = record { who = pass; op = Insert; key = a.key c; reply = true; value = payload_of start a c } ∷ []
calls_made start a pass (Removes c) = record { who = pass; op = Remove; key = a.key c; reply = true; value = payload_of start a c } ∷ []
calls_made start a pass (Replaces old c) =
    record { who = pass; op = Remove; key = a.key old; reply = true; value = payload_of start a old } ∷ record { who = pass; op = Insert; key = a.key c; reply = true; value = payload_of start a c } ∷ []
calls_made start a pass (Confirms call) = call ∷ []
calls_made start a pass _ = []

-- the first of each bucket once the successor of what stands before has changed
abbrev pub first_with : (ℕ → Option ℕ) → Before → Option ℕ → ℕ → Option ℕ
first_with first (AtHead b) next = put first b next
first_with first (AtNode c) next = first

-- the successors once the one of what stands before has changed
abbrev pub next_with : (ℕ → Option ℕ) → Before → Option ℕ → ℕ → Option ℕ
next_with successors (AtHead b) next = successors
next_with successors (AtNode c) next = put successors c next

-- the epoch at which an incarnation was unlinked
abbrev pub unlinked_at : State → ℕ
unlinked_at (Unlinked pass unlinked) = unlinked
unlinked_at (Stamped unlinked stamp) = unlinked
unlinked_at _ = 0

-- the incarnations once one more event has happened
abbrev pub becomes : Start → Incarnations → ℕ → Happening → Incarnations
becomes start a pass Advances = record a { epoch = a.epoch + 1 }
becomes start a pass (Gains s) = record a { place = put a.place s (Own pass) }
becomes start a pass (Probes s) = a
becomes start a pass (Raises s) = record a { place = put a.place s Shared }
becomes start a pass (GivesUp c) = record a { state = put a.state c GivenUp }
becomes start a pass (Bears s birth) =
    record a {
      count = a.count + 1;
      slot = put a.slot a.count s;
      birth = put a.birth a.count birth;
      key = put a.key a.count (key_shown a (a.last s));
      is_keyed = put a.is_keyed a.count false;
      value = put a.value a.count (value_shown a (a.last s));
      is_valued = put a.is_valued a.count false;
      link = put a.link a.count (link_shown a (a.last s));
      is_aimed = put a.is_aimed a.count false;
      next = put a.next a.count None;
      state = put a.state a.count (InHand pass);
      last = put a.last s (Some a.count);
      place = put a.place s (Hand pass);
    }
becomes start a pass (Keyed c key) = record a { key = put a.key c key; is_keyed = put a.is_keyed c true }
becomes start a pass (Valued c value) = record a { value = put a.value c value; is_valued = put a.is_valued c true }
becomes start a pass (Aims c link) = record a { link = put a.link c link; is_aimed = put a.is_aimed c true }
becomes start a pass (Inserts c behind) =
    record a {
      first = first_with a.first behind (Some c);
      next = next_with (put a.next c (next_of a behind)) behind (Some c);
      state = put a.state c Linked;
      place = put a.place (a.slot c) (Listed (bucket_of start.shape (a.key c)));
      calls = a.calls ++ calls_made start a pass (Inserts c behind);
    }
becomes start a pass (Removes c) = record a { state = put a.state c Marked; calls = a.calls ++ calls_made start a pass (Removes c) }
becomes start a pass (Replaces old c) =
    record a {
      next = put (put a.next c (a.next old)) old (Some c);
      rank = put a.rank c (a.rank old + 1);
      state = put (put a.state old Marked) c Linked;
      place = put a.place (a.slot c) (Listed (bucket_of start.shape (a.key c)));
      calls = a.calls ++ calls_made start a pass (Replaces old c);
    }
becomes start a pass (Unlinks c behind) =
    record a {
      first = first_with a.first behind (a.next c);
      next = next_with a.next behind (a.next c);
      state = put a.state c (Unlinked pass a.epoch);
      place = put a.place (a.slot c) (Own pass);
    }
becomes start a pass (Stamps c stamp) =
    record a { state = put a.state c (Stamped (unlinked_at (a.state c)) stamp); stamp = put a.stamp (a.slot c) stamp }
becomes start a pass (Confirms call) = record a { calls = a.calls ++ calls_made start a pass (Confirms call) }

-- ---- chronicles

-- the incarnations that a chronicle leads to
abbrev pub incarnations_from : Start → Incarnations → List Entry → Incarnations
incarnations_from start a [] = a
incarnations_from start a (entry ∷ entries) = incarnations_from start (becomes start a entry.pass entry.what) entries

-- a chronicle is lawful if each event is allowed after those before it
abbrev pub IsLawful : Start → Keys → Incarnations → List Entry → Type 0
IsLawful start keys a [] = Unit {0}
IsLawful start keys a (entry ∷ entries) = Allowed start keys a entry.pass entry.what × IsLawful start keys (becomes start a entry.pass entry.what) entries

-- the events of one pass, in their order
abbrev pub entries_by : ℕ → List Entry → List Entry
entries_by pass entries = filter (λ entry. entry.pass == pass) entries
