-- Acceptance by membership and acceptance by searches agree of what a pass knows, and both write the same link.
use Rattle.std.proofs.Common.{◌≡◌, ℕ, ◌<◌, Bool, true, false, List, Option, Some, None, refl, arith, sym, subst, ap}
use Rattle.std.proofs.Common.{◌∙◌}
use Rattle.std.specs.Prelude.{IsSome, unwrap_or, if◌then◌else◌}
use Rattle.vbr_machine.specs.Start.{Start}
use Rattle.vbr_words.specs.Words.{link_of}
use Rattle.vbr_words.specs.declared.link.Link.{Link}
use Rattle.vbr_words.specs.declared.place.At.{At}
use Rattle.vbr_words.specs.declared.place.At.TheVariants.{Head, Slot}
use Rattle.vbr_machine.specs.Links.{link_to, marked}
use Rattle.vbr_words.specs.Buckets.{bucket_of}
use Rattle.vbr_machine.specs.Opened.{payload_kept}
use Rattle.vbr_machine.specs.Knowledge.{Know, knows_link, birth_in, key_in, value_in, marked_in, holds, holds_at}
use Rattle.vbr_machine.specs.Knowledge.{birth_at, birth_of}
use Rattle.vbr_machine.specs.Acceptance.{KnowsKeyAt, KnowsKeyOf, after_turns, LeadsToKey, next_of_marked, HasValue}
use Rattle.vbr_machine.specs.Acceptance.{HasValueFor, HasChecked, IsBehind, IsBefore, LeadsAbove, MayPublish}
use Rattle.vbr_machine.specs.Acceptance.{MayReplace, IsInRange, Accepts}
use Rattle.vbr_machine.specs.Learning.{link_written, call_of, present_reply, present_value, birth_in_hand}
use Rattle.vbr_machine.specs.Membership.{Knows, IsHeldSlot, IsHeldPlace, BirthAt, BirthNamed, StandsBehind}
use Rattle.vbr_machine.specs.Membership.{StandsBefore, StandsBeforeOn, IsUnlinkLink, KnowsValue}
use Rattle.vbr_machine.specs.Membership.{KnowsValueFor, IsKnown, MayPublishKnown, MayReplaceKnown, IsInRangeKnown}
use Rattle.vbr_machine.specs.Membership.{AcceptsKnown}
use Rattle.vbr_machine.specs.Incarnations.{Incarnations}
use Rattle.vbr_machine.specs.Sound.{Sound}
use Rattle.vbr_machine.specs.Notes.{Notes}
use Rattle.vbr_machine.specs.Agreement.{FitsNotes, Fits}
use Rattle.vbr_machine.specs.declared.history.Op.{Op}
use Rattle.vbr_machine.specs.declared.history.Op.TheVariants.{Insert, Remove, Has, Get}
use Rattle.vbr_machine.specs.declared.event.Step.{Step}
use Rattle.vbr_machine.specs.declared.event.Step.TheVariants.{StoreLink, LoadLink, LoadBirth, LoadKey, LoadValue}
use Rattle.vbr_machine.specs.declared.event.Step.TheVariants.{Publish, Mark, Replace, Unlink, ConfirmPresent}
use Rattle.vbr_machine.specs.declared.event.Step.TheVariants.{ConfirmAbsent}
use Rattle.vbr_machine.specs.declared.knowledge.Read.TheVariants.{LinkAt, BirthOf, KeyOf, ValueOf}
use Rattle.vbr_machine.specs.declared.knowledge.Holding.{Holding}
use Rattle.vbr_machine.specs.declared.knowledge.Holding.TheVariants.{Free, Unlinked, InHand}
use Rattle.vbr_machine.specs.declared.knowledge.Read.{Read}
use Rattle.vbr_machine.proofs.reads.MarkedWalks.{walk_led, led_walk}
use Rattle.vbr_machine.proofs.reads.Searches.{birth_is, key_is, value_is}
use Rattle.vbr_machine.proofs.reads.FoundReads.{Birth, Key, Value, word_among, word_there, link_among, marked_among}
use Rattle.vbr_machine.proofs.reads.FoundReads.{holds_among, link_there, marked_there, holds_there}
use Rattle.vbr_machine.proofs.reads.KnownReads.{key_known, value_known, behind_known, before_known, birth_held}
use Rattle.vbr_machine.proofs.reads.KnownReads.{key_held, value_held, one_mark}
use Rattle.vbr_machine.proofs.reads.ValueReads.{some_value}

-- the step writes this link, by births and a marked link that are known; other steps write none
abbrev pub WritesLink : Know → Step → Link → Type 0
WritesLink know (StoreLink s next) new =
    (birth : ℕ) × BirthNamed know next birth × (new ≡ link_to next (birth_in_hand (know.own s)) birth)
WritesLink know (Publish pred expected s) new =
    (birth : ℕ) × BirthAt know pred birth × (new ≡ link_to (Some s) birth (birth_in_hand (know.own s)))
WritesLink know (Mark s expected) new = new ≡ marked (link_of expected)
WritesLink know (Replace s expected t) new =
    (birth : ℕ) × Knows know (BirthOf s birth) × (new ≡ marked (link_to (Some t) birth (birth_in_hand (know.own t))))
WritesLink know (Unlink pred expected s) new = IsUnlinkLink know pred s new
WritesLink know _ new = ⊥

-- ---- what is looked up is known

some_is : {X : Type 0} (o : Option X) → IsSome o → (x : X) × (o ≡ Some x)
some_is None h = absurd (cc)
some_is (Some x) h = (x, refl)

link_known : (know : Know) (place : At) (link : Link) → knows_link know.checked place link ≡ true →
    Knows know (LinkAt place link)
link_known know place link q = record { among = link_among know.checked place link q }

pub slot_known : (know : Know) (s : ℕ) → holds know.checked s ≡ true → IsHeldSlot know s
slot_known know s q =
    let x = holds_among know.checked s q in
    record { place = x.0; link = x.1; known = record { among = x.2 }; names = x.3 }

pub place_known : (know : Know) (place : At) → holds_at know.checked place ≡ true → IsHeldPlace know place
place_known know (Head b) q = tt
place_known know (Slot s) q = slot_known know s q

birth_known : (know : Know) (s : ℕ) → IsSome (birth_in know.checked s) →
    Knows know (BirthOf s (unwrap_or (birth_in know.checked s) 0))
birth_known know s h = go (birth_in know.checked s) refl h
  where
    go : (o : Option ℕ) → birth_in know.checked s ≡ o → IsSome o → Knows know (BirthOf s (unwrap_or o 0))
    go None q h = absurd (cc)
    go (Some birth) q h = record { among = word_among Birth know.checked s birth q }

birth_at_known : (know : Know) (place : At) → IsSome (birth_at know.checked place) →
    BirthAt know place (unwrap_or (birth_at know.checked place) 0)
birth_at_known know (Head b) h = refl
birth_at_known know (Slot s) h = birth_known know s h

birth_named_known : (know : Know) (v : Option ℕ) → IsSome (birth_of know.checked v) →
    BirthNamed know v (unwrap_or (birth_of know.checked v) 0)
birth_named_known know None h = refl
birth_named_known know (Some s) h = birth_known know s h

-- the link that an unlinking writes by searches is one that it writes by what is known
unlink_known : (know : Know) (pred : At) (expected s : ℕ) → IsSome (marked_in know.checked s) →
    IsSome (birth_at know.checked pred) → IsSome (birth_of know.checked (next_of_marked (marked_in know.checked s))) →
    IsUnlinkLink know pred s (link_written know (Unlink pred expected s))
unlink_known know pred expected s m b n =
    let x = some_is (marked_in know.checked s) m in
    let y = marked_among know.checked s x.0 x.1 in
    let e : next_of_marked (marked_in know.checked s) ≡ x.0.slot = ap next_of_marked x.1 in
    record {
      frozen = x.0;
      known = record { among = y.0 };
      is_marked = y.1;
      birth = unwrap_or (birth_at know.checked pred) 0;
      birth_known = birth_at_known know pred b;
      next_birth = unwrap_or (birth_of know.checked x.0.slot) 0;
      next_known = birth_named_known know x.0.slot (rw e at n);
      is = ap (λ v. link_to v (unwrap_or (birth_at know.checked pred) 0) (unwrap_or (birth_of know.checked v) 0)) e;
    }

values_known : (t : Bool) (know : Know) (s : ℕ) → HasValue t (value_in know.checked s) → KnowsValue t know s
values_known true know s h = (unwrap_or (value_in know.checked s) 0, value_known know s h)
values_known false know s h = tt

value_known_for : (op : Op) (know : Know) (s : ℕ) → HasValueFor op (value_in know.checked s) → KnowsValueFor op know s
value_known_for Insert know s h = tt
value_known_for Remove know s h = tt
value_known_for Has know s h = tt
value_known_for Get know s h = (unwrap_or (value_in know.checked s) 0, value_known know s h)

held_known : (start : Start) (know : Know) (step : Step) → HasChecked start know step → IsKnown start know step
held_known start know (StoreLink s None) h = tt
held_known start know (StoreLink s (Some n)) h =
    (slot_known know n h.0, (unwrap_or (birth_in know.checked n) 0, birth_known know n h.1))
held_known start know (LoadLink place) h = place_known know place h
held_known start know (LoadBirth s) h = slot_known know s h
held_known start know (LoadKey s) h = slot_known know s h
held_known start know (LoadValue s) h = slot_known know s h
held_known start know (Publish pred expected s) h = (
  link_known know pred (link_of expected) h.0,
  (unwrap_or (birth_at know.checked pred) 0, birth_at_known know pred h.1.0),
)
held_known start know (Mark s expected) h = (
  link_known know (Slot s) (link_of expected) h.0,
  (unwrap_or (key_in know.checked s) 0, key_known know s h.1),
  values_known start.shape.values know s h.2,
)
held_known start know (Replace s expected t) h = (
  link_known know (Slot s) (link_of expected) h.0,
  (unwrap_or (birth_in know.checked s) 0, birth_known know s h.1.0),
  (unwrap_or (value_in know.checked s) 0, value_known know s h.1.2),
)
held_known start know (Unlink pred expected s) h = (
  link_known know pred (link_of expected) h.0,
  (link_written know (Unlink pred expected s), unlink_known know pred expected s h.1 h.2 h.3),
)
held_known start know (ConfirmPresent op s expected) h = (
  link_known know (Slot s) (link_of expected) h.0,
  (unwrap_or (key_in know.checked s) 0, key_known know s h.1),
  value_known_for op know s h.2,
)
held_known start know (ConfirmAbsent op key place expected) h = link_known know place (link_of expected) h.0
held_known start know step h = tt

ready_known : (start : Start) (know : Know) (pred : At) (expected : Link) (own : Option Holding) →
    KnowsKeyAt know.checked pred → KnowsKeyOf know.checked expected.slot →
    IsSome (birth_of know.checked expected.slot) → MayPublish start know.checked pred expected own →
    MayPublishKnown start know pred expected own
ready_known start know pred expected None k n b r = absurd r
ready_known start know pred expected (Some (Free stamp)) k n b r = absurd r
ready_known start know pred expected (Some (Unlinked reread)) k n b r = absurd r
ready_known start know pred expected (Some (InHand known)) k n b r = record {
  key = r.key;
  key_is = r.key_is;
  named = unwrap_or (birth_of know.checked expected.slot) 0;
  named_known = birth_named_known know expected.slot b;
  link_is = r.link_is;
  behind = behind_known know start pred r.key k r.behind;
  before = before_known know r.key expected.slot n r.before;
  valued = r.valued;
}

in_place_known : (start : Start) (know : Know) (s : ℕ) (expected : Link) (own : Option Holding) →
    IsSome (key_in know.checked s) → IsSome (birth_of know.checked expected.slot) →
    MayReplace start know.checked s expected own → MayReplaceKnown start know s expected own
in_place_known start know s expected None k b r = absurd r
in_place_known start know s expected (Some (Free stamp)) k b r = absurd r
in_place_known start know s expected (Some (Unlinked reread)) k b r = absurd r
in_place_known start know s expected (Some (InHand known)) k b r = record {
  key = unwrap_or (key_in know.checked s) 0;
  key_known = key_known know s k;
  key_is = r.key_is;
  named = unwrap_or (birth_of know.checked expected.slot) 0;
  named_known = birth_named_known know expected.slot b;
  link_is = r.link_is;
  valued = r.valued;
}

-- a key that stands before a slot by a search stands before a checked key of it
key_found : (reads : List Read) (key : ℕ) (v : Option ℕ) → IsBefore reads key v → KnowsKeyOf reads v
key_found reads key None i = tt
key_found reads key (Some s) i = go (key_in reads s) i
  where
    go : (o : Option ℕ) → key < unwrap_or o 0 → IsSome o
    go None i = absurd (omega arith)
    go (Some k) i = refl

-- a key stands before what known marked links lead to, if it stands before what a walk comes to
before_on : (know : Know) (key : ℕ) (link : Link) (most : ℕ) → LeadsAbove most know.checked key link.slot →
    StandsBeforeOn know key link
before_on know key link most m =
    let led = walk_led know link m.turns in
    let P : Option ℕ → Type 0 = StandsBefore know key in
    record {
      last = led.last;
      leads = led.leads;
      before = subst P (sym led.names)
          (before_known know key (after_turns know.checked m.turns link.slot)
          (key_found know.checked key (after_turns know.checked m.turns link.slot) m.before) m.before);
    }

range_known : (start : Start) (know : Know) (step : Step) → HasChecked start know step → IsInRange start know step →
    IsInRangeKnown start know step
range_known start know (Publish pred expected s) h r =
    (r.0, ready_known start know pred (link_of expected) (know.own s) h.1.1 h.2.1 h.2.0 r.1)
range_known start know (Replace s expected t) h r =
    (r.0, in_place_known start know s (link_of expected) (know.own t) h.1.1 h.2 r.1)
range_known start know (ConfirmAbsent op key place expected) h r =
    (r.0, r.1, behind_known know start place key h.1 r.2, before_on know key (link_of expected) start.shape.slots r.3)
range_known start know step h r = r

-- what is accepted by searches is accepted by membership
pub accepts_known : {start : Start} {know : Know} {step : Step} → Accepts start know step → AcceptsKnown start know step
accepts_known {start} {know} {step} ok =
    record {
      in_shape = ok.in_shape;
      owned = ok.owned;
      known = held_known start know step ok.held;
      in_range = range_known start know step ok.held ok.in_range;
      below_last = ok.below_last;
    }

-- ---- what is known is looked up

module _ {start : Start} {a : Incarnations} {know : Know} {notes : Notes} (sound : Sound start a)
    (noted : FitsNotes a know notes) where
  -- a search of a key finds any known key
  pub key_looked_up : (s key : ℕ) → Knows know (KeyOf s key) → unwrap_or (key_in know.checked s) 0 ≡ key
  key_looked_up s key k =
      let x = key_held noted s key k in
      key_is sound.slots know.epoch notes.checked know.checked s x.0 noted.checked_reads noted.checked x.1
      (word_there Key know.checked s key k.among) ∙ x.2

  -- and so does a search of a value
  pub value_looked_up : (s value : ℕ) → Knows know (ValueOf s value) → value_in know.checked s ≡ Some value
  value_looked_up s value k =
      let x = value_held noted s value k in
      let there = word_there Value know.checked s value k.among in
      some_value (value_in know.checked s) value there
      (value_is sound.slots know.epoch notes.checked know.checked s x.0 noted.checked_reads noted.checked x.1 there
      ∙ x.2)

  pub birth_looked_up : (s birth : ℕ) → Knows know (BirthOf s birth) → unwrap_or (birth_in know.checked s) 0 ≡ birth
  birth_looked_up s birth k =
      let x = birth_held noted s birth k in
      birth_is sound.slots know.epoch notes.checked know.checked s x.0 noted.checked_reads noted.checked x.1
      (word_there Birth know.checked s birth k.among) ∙ x.2

  birth_at_is : (place : At) (birth : ℕ) → BirthAt know place birth → unwrap_or (birth_at know.checked place) 0 ≡ birth
  birth_at_is (Head b) birth k = sym k
  birth_at_is (Slot s) birth k = birth_looked_up s birth k

  birth_named_is : (v : Option ℕ) (birth : ℕ) → BirthNamed know v birth → unwrap_or (birth_of know.checked v) 0 ≡ birth
  birth_named_is None birth k = sym k
  birth_named_is (Some s) birth k = birth_looked_up s birth k

  birth_at_there : (place : At) (birth : ℕ) → BirthAt know place birth → IsSome (birth_at know.checked place)
  birth_at_there (Head b) birth k = refl
  birth_at_there (Slot s) birth k = word_there Birth know.checked s birth k.among

  birth_named_there : (v : Option ℕ) (birth : ℕ) → BirthNamed know v birth → IsSome (birth_of know.checked v)
  birth_named_there None birth k = refl
  birth_named_there (Some s) birth k = word_there Birth know.checked s birth k.among

  -- a search of a marked link finds one that names what any known marked link names
  mark_is : (s : ℕ) (link : Link) → Knows know (LinkAt (Slot s) link) → link.mark ≡ true →
      next_of_marked (marked_in know.checked s) ≡ link.slot
  mark_is s link k m =
      let x = some_is (marked_in know.checked s) (marked_there know.checked s link k.among m) in
      let y = marked_among know.checked s x.0 x.1 in
      ap next_of_marked x.1 ∙ one_mark sound noted s x.0 link (record { among = y.0 }) k y.1 m

  -- the link that a step writes by searches is the one that it writes by any known births and marked link
  pub written_is : (step : Step) (new : Link) → WritesLink know step new → link_written know step ≡ new
  written_is (StoreLink s next) new h =
      ap (λ n. link_to next (birth_in_hand (know.own s)) n) (birth_named_is next h.0 h.1) ∙ sym h.2
  written_is (Publish pred expected s) new h =
      ap (λ n. link_to (Some s) n (birth_in_hand (know.own s))) (birth_at_is pred h.0 h.1) ∙ sym h.2
  written_is (Mark s expected) new h = sym h
  written_is (Replace s expected t) new h =
      ap (λ n. marked (link_to (Some t) n (birth_in_hand (know.own t)))) (birth_looked_up s h.0 h.1) ∙ sym h.2
  written_is (Unlink pred expected s) new h =
      let e : next_of_marked (marked_in know.checked s) ≡ h.frozen.slot = mark_is s h.frozen h.known h.is_marked in
      let n : unwrap_or (birth_of know.checked (next_of_marked (marked_in know.checked s))) 0 ≡ h.next_birth =
      ap (λ v. unwrap_or (birth_of know.checked v) 0) e ∙ birth_named_is h.frozen.slot h.next_birth h.next_known in
      (λ i. link_to (e i) (birth_at_is pred h.birth h.birth_known i) (n i)) ∙ sym h.is
  written_is step new h = absurd h

  -- the calls of a mark and of a confirming load of a slot are of any known key, and of any known value
  values_kept : (t : Bool) (s value : ℕ) → (t ≡ true → Knows know (ValueOf s value)) →
      (if t then value_in know.checked s else None) ≡ (if t then Some value else None)
  values_kept true s value k = value_looked_up s value (k refl)
  values_kept false s value k = refl

  value_told : (op : Op) (s value : ℕ) → (op ≡ Get → Knows know (ValueOf s value)) →
      present_value op (value_in know.checked s) ≡ present_value op (Some value)
  value_told Insert s value k = refl
  value_told Remove s value k = refl
  value_told Has s value k = refl
  value_told Get s value k = value_looked_up s value (k refl)

  pub marked_call_is : (p s expected key value : ℕ) → Knows know (KeyOf s key) →
      (start.shape.values ≡ true → Knows know (ValueOf s value)) →
      call_of start p know (Mark s expected)
      ≡ Some (record { who = p; op = Remove; key = key; reply = true; value = payload_kept start (Some value) })
  marked_call_is p s expected key value k v = λ i.
      Some (record {
        who = p;
        op = Remove;
        key = key_looked_up s key k i;
        reply = true;
        value = values_kept start.shape.values s value v i;
      })

  pub confirmed_call_is : (p : ℕ) (op : Op) (s expected key value : ℕ) → Knows know (KeyOf s key) →
      (op ≡ Get → Knows know (ValueOf s value)) →
      call_of start p know (ConfirmPresent op s expected)
      ≡ Some (record { who = p; op = op; key = key; reply = present_reply op; value = present_value op (Some value) })
  confirmed_call_is p op s expected key value k v = λ i.
      Some (record {
        who = p;
        op = op;
        key = key_looked_up s key k i;
        reply = present_reply op;
        value = value_told op s value v i;
      })

  -- ---- acceptance

  behind_there : (place : At) (key : ℕ) → StandsBehind start know place key → KnowsKeyAt know.checked place
  behind_there (Head b) key h = tt
  behind_there (Slot s) key h = word_there Key know.checked s h.0 h.1.among

  before_there : (key : ℕ) (v : Option ℕ) → StandsBefore know key v → KnowsKeyOf know.checked v
  before_there key None h = tt
  before_there key (Some s) h = word_there Key know.checked s h.0 h.1.among

  behind_is : (place : At) (key : ℕ) → StandsBehind start know place key → IsBehind start know.checked place key
  behind_is (Head b) key h = h
  behind_is (Slot s) key h =
      let e = key_looked_up s h.0 h.1 in (h.2 ∙ ap (bucket_of start.shape) (sym e), (let u = h.3 in omega arith))

  before_is : (key : ℕ) (v : Option ℕ) → StandsBefore know key v → IsBefore know.checked key v
  before_is key None h = tt
  before_is key (Some s) h = let e = key_looked_up s h.0 h.1 in (let u = h.2 in omega arith)

  held_of_slot : (s : ℕ) → IsHeldSlot know s → holds know.checked s ≡ true
  held_of_slot s h = holds_there know.checked s h.place h.link h.known.among h.names

  held_of_place : (place : At) → IsHeldPlace know place → holds_at know.checked place ≡ true
  held_of_place (Head b) h = refl
  held_of_place (Slot s) h = held_of_slot s h

  link_held : (place : At) (link : Link) → Knows know (LinkAt place link) → knows_link know.checked place link ≡ true
  link_held place link k = link_there know.checked place link k.among

  -- a slot in hand that is ready by what is known is so by searches, and the reads that it asks for are checked
  ready_is : (pred : At) (expected : Link) (own : Option Holding) → MayPublishKnown start know pred expected own →
      MayPublish start know.checked pred expected own × KnowsKeyAt know.checked pred ×
      KnowsKeyOf know.checked expected.slot × IsSome (birth_of know.checked expected.slot)
  ready_is pred expected None r = absurd r
  ready_is pred expected (Some (Free stamp)) r = absurd r
  ready_is pred expected (Some (Unlinked reread)) r = absurd r
  ready_is pred expected (Some (InHand known)) r = (
    record {
      key = r.key;
      key_is = r.key_is;
      link_is = r.link_is
          ∙ ap (λ birth. Some (link_to expected.slot known.birth birth))
          (sym (birth_named_is expected.slot r.named r.named_known));
      behind = behind_is pred r.key r.behind;
      before = before_is r.key expected.slot r.before;
      valued = r.valued;
    },
    behind_there pred r.key r.behind,
    before_there r.key expected.slot r.before,
    birth_named_there expected.slot r.named r.named_known,
  )

  in_place_is : (s : ℕ) (expected : Link) (own : Option Holding) → MayReplaceKnown start know s expected own →
      MayReplace start know.checked s expected own × IsSome (key_in know.checked s) ×
      IsSome (birth_of know.checked expected.slot)
  in_place_is s expected None r = absurd r
  in_place_is s expected (Some (Free stamp)) r = absurd r
  in_place_is s expected (Some (Unlinked reread)) r = absurd r
  in_place_is s expected (Some (InHand known)) r = (
    record {
      key_is = r.key_is ∙ ap Some (sym (key_looked_up s r.key r.key_known));
      link_is = r.link_is
          ∙ ap (λ birth. Some (link_to expected.slot known.birth birth))
          (sym (birth_named_is expected.slot r.named r.named_known));
      valued = r.valued;
    },
    word_there Key know.checked s r.key r.key_known.among,
    birth_named_there expected.slot r.named r.named_known,
  )

  -- where a key stands before what known marked links lead to, a walk comes to a checked key, and to one before
  -- which the key stands
  leads_to_key : Fits start a → (key : ℕ) (link : Link) → StandsBeforeOn know key link →
      LeadsToKey start.shape.slots know.checked link.slot
  leads_to_key fits key link on =
      let w = led_walk sound fits noted link on.last on.leads in
      let P : Option ℕ → Type 0 = KnowsKeyOf know.checked in
      record { turns = w.0; within = w.1; known = subst P (sym w.2) (before_there key on.last.slot on.before) }

  leads_above : Fits start a → (key : ℕ) (link : Link) → StandsBeforeOn know key link →
      LeadsAbove start.shape.slots know.checked key link.slot
  leads_above fits key link on =
      let w = led_walk sound fits noted link on.last on.leads in
      let P : Option ℕ → Type 0 = IsBefore know.checked key in
      record { turns = w.0; within = w.1; before = subst P (sym w.2) (before_is key on.last.slot on.before) }

  values_there : (t : Bool) (s : ℕ) → KnowsValue t know s → HasValue t (value_in know.checked s)
  values_there true s k = word_there Value know.checked s k.0 k.1.among
  values_there false s k = tt

  value_there_for : (op : Op) (s : ℕ) → KnowsValueFor op know s → HasValueFor op (value_in know.checked s)
  value_there_for Insert s k = tt
  value_there_for Remove s k = tt
  value_there_for Has s k = tt
  value_there_for Get s k = word_there Value know.checked s k.0 k.1.among

  held_is : Fits start a → (step : Step) → IsKnown start know step → IsInRangeKnown start know step →
      HasChecked start know step
  held_is fits (StoreLink s None) k r = tt
  held_is fits (StoreLink s (Some n)) k r = (held_of_slot n k.0, word_there Birth know.checked n k.1.0 k.1.1.among)
  held_is fits (LoadLink place) k r = held_of_place place k
  held_is fits (LoadBirth s) k r = held_of_slot s k
  held_is fits (LoadKey s) k r = held_of_slot s k
  held_is fits (LoadValue s) k r = held_of_slot s k
  held_is fits (Publish pred expected s) k r =
      let x = ready_is pred (link_of expected) (know.own s) r.1 in
      (link_held pred (link_of expected) k.0, (birth_at_there pred k.1.0 k.1.1, x.1), (x.3, x.2))
  held_is fits (Mark s expected) k r = (
    link_held (Slot s) (link_of expected) k.0,
    word_there Key know.checked s k.1.0 k.1.1.among,
    values_there start.shape.values s k.2,
  )
  held_is fits (Replace s expected t) k r =
      let x = in_place_is s (link_of expected) (know.own t) r.1 in (
        link_held (Slot s) (link_of expected) k.0,
        (word_there Birth know.checked s k.1.0 k.1.1.among, x.1, word_there Value know.checked s k.2.0 k.2.1.among),
        x.2,
      )
  held_is fits (Unlink pred expected s) k r =
      let u = k.1.1 in (
        link_held pred (link_of expected) k.0,
        marked_there know.checked s u.frozen u.known.among u.is_marked,
        birth_at_there pred u.birth u.birth_known,
        rw (mark_is s u.frozen u.known u.is_marked) (birth_named_there u.frozen.slot u.next_birth u.next_known),
      )
  held_is fits (ConfirmPresent op s expected) k r = (
    link_held (Slot s) (link_of expected) k.0,
    word_there Key know.checked s k.1.0 k.1.1.among,
    value_there_for op s k.2,
  )
  held_is fits (ConfirmAbsent op key place expected) k r =
      (link_held place (link_of expected) k, behind_there place key r.2, leads_to_key fits key (link_of expected) r.3)
  held_is fits step k r = tt

  range_is : Fits start a → (step : Step) → IsInRangeKnown start know step → IsInRange start know step
  range_is fits (Publish pred expected s) r = (r.0, (ready_is pred (link_of expected) (know.own s) r.1).0)
  range_is fits (Replace s expected t) r = (r.0, (in_place_is s (link_of expected) (know.own t) r.1).0)
  range_is fits (ConfirmAbsent op key place expected) r =
      (r.0, r.1, behind_is place key r.2, leads_above fits key (link_of expected) r.3)
  range_is fits step r = r

  -- what is accepted by membership is accepted by searches
  pub known_accepts : Fits start a → {step : Step} → AcceptsKnown start know step → Accepts start know step
  known_accepts fits {step} ok =
      record {
        in_shape = ok.in_shape;
        owned = ok.owned;
        held = held_is fits step ok.known ok.in_range;
        in_range = range_is fits step ok.in_range;
        below_last = ok.below_last;
      }
