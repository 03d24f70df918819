-- A slot in hand whose key and link are stored, and its publication.
use Rattle.std.proofs.Common.{◌≡◌, ℕ, ◌<◌, Bool, true, false, Option, Some, None, refl, sym, ap, ◌∙◌, subst, arith}
use Rattle.std.specs.Prelude.{unwrap_or}
use Rattle.vbr_words.specs.Packing.{IsPackable, slot_bits}
use Rattle.vbr_words.specs.Words.{IsLink, link_of, word_of}
use Rattle.vbr_words.specs.declared.link.Link.{Link}
use Rattle.vbr_machine.specs.Start.{Start}
use Rattle.vbr_machine.specs.Acceptance.{IsNextIn, IsInHand, Accepts}
use Rattle.vbr_machine.specs.Knowledge.{Know}
use Rattle.vbr_machine.specs.Learning.{with_key, with_link, with_value, with_own, link_written, birth_in_hand}
use Rattle.vbr_machine.specs.Learning.{key_in_hand, value_in_hand}
use Rattle.vbr_machine.specs.Opened.{payload_kept}
use Rattle.vbr_machine.specs.Links.{link_to, marked}
use Rattle.vbr_machine.specs.Membership.{IsHeldSlot, IsNextKnown, BirthNamed, StandsBehind, StandsBefore}
use Rattle.vbr_machine.specs.Membership.{MayPublishKnown}
use Rattle.vbr_machine.specs.declared.event.Step.TheVariants.{StoreKey, StoreValue, StoreLink, Publish}
use Rattle.vbr_machine.specs.declared.history.Op.TheVariants.{Insert}
use Rattle.vbr_machine.specs.declared.knowledge.Holding.{Holding}
use Rattle.vbr_machine.specs.declared.knowledge.Unpublished.{Unpublished}
use Rattle.vbr_machine.specs.declared.knowledge.Holding.TheVariants.{Free, Unlinked, InHand}
use Rattle.vbr_machine.proofs.Lemmas.{known_accepts, put_here, written_is}
use Rattle.vbr_at_table.specs.hands.Hands.{HandView, IsHandOf}
use Rattle.vbr_slots.specs.steps.Calls.{Quiet, Made}
use Rattle.vbr_slots.specs.pools.Pools as pools
use Rattle.vbr_slots.specs.views.Views.{Trace, PassView, Did, knows}
use Rattle.vbr_slots.proofs.Lemmas.{did_quiet}
use Rattle.vbr_at_table.specs.reads.Held.{IsHeld, IsFilled}
use Rattle.vbr_at_table.specs.reads.KeptKnowledge.{Keeps}
use Rattle.vbr_slots.specs.steps.PassLaw.{PassLaw}
use Rattle.vbr_at_table.specs.declared.held.Held.{Held}
use Rattle.vbr_at_table.proofs.steps.MadeCalls.{published}
use Rattle.vbr_at_table.proofs.steps.Accepted.{place_in, slot_in, named_slot}
use Rattle.vbr_at_table.specs.answers.Values.{FillsEntry, PutsValue, entry_call, with_kept_value}
use Rattle.vbr_at_table.proofs.reads.KeptKnowledge.{birth_named_kept, held_kept, keeps_on}
use Rattle.vbr_at_table.proofs.answers.NoValues.{kept_same, value_asked}
use Rattle.vbr_at_table.proofs.exchanges.WrittenLinks.{has_room, marked_has_room, birth_at_low, birth_in_hand_low, fits}

-- ---- what is in hand

in_hand_is : (holding : Option Holding) → IsInHand holding → (known : Unpublished) × (holding ≡ Some (InHand known))
in_hand_is None is = absurd is
in_hand_is (Some (Free stamp)) is = absurd is
in_hand_is (Some (Unlinked reread)) is = absurd is
in_hand_is (Some (InHand known)) is = (known, refl)

-- the slot of a hand is one of the shape, and in hand
hand_in_hand : (p : PassView) → PassLaw p → (hand : HandView) → IsHandOf p hand →
    (hand.slot < p.trace.start.shape.slots) × IsInHand ((knows p.trace).own hand.slot)
hand_in_hand p sound hand h =
    let P : Option ℕ → Type 0 = pools.HandFits p.trace.start (knows p.trace) p.pool in
    let o = subst P h.slot sound.own.in_hand in
    (o.0, o.1)

pub hand_at : (p : PassView) → PassLaw p → (hand : HandView) → IsHandOf p hand → (s : ℕ) → s ≡ hand.slot →
    (s < p.trace.start.shape.slots) × IsInHand ((knows p.trace).own s) ×
    (birth_in_hand ((knows p.trace).own s) ≡ hand.birth)
hand_at p sound hand h s is =
    let P : ℕ → Type 0 =
    λ s. (s < p.trace.start.shape.slots) × IsInHand ((knows p.trace).own s) ×
    (birth_in_hand ((knows p.trace).own s) ≡ hand.birth) in
    let o = hand_in_hand p sound hand h in
    subst P (sym is) (o.0, o.1, h.birth)

keyed : (holding : Option Holding) (key birth : ℕ) → IsInHand holding → birth_in_hand holding ≡ birth →
    IsInHand (with_key holding key) × (birth_in_hand (with_key holding key) ≡ birth)
keyed holding key birth is same = let i = in_hand_is holding is in rw i.1 (tt, ap birth_in_hand (sym i.1) ∙ same)

filled_is : (holding : Option Holding) (key birth : ℕ) (link : Link) → IsInHand holding →
    birth_in_hand holding ≡ birth → IsFilled (with_link (with_key holding key) link) birth key link
filled_is holding key birth link is same =
    let i = in_hand_is holding is in
    record {
      known = record i.0 { key = Some key; link = Some link };
      holding_is = ap (λ (o : Option Holding). with_link (with_key o key) link) i.1;
      birth_is = ap birth_in_hand (sym i.1) ∙ same;
      key_is = refl;
      link_is = refl;
    }

-- the value is stored where nodes have values, and the birth stays
kept_hand : (b : Bool) (holding : Option Holding) (value birth : ℕ) → IsInHand holding → birth_in_hand holding ≡ birth →
    IsInHand (with_kept_value b holding value) × (birth_in_hand (with_kept_value b holding value) ≡ birth)
kept_hand true holding value birth is same =
    let i = in_hand_is holding is in rw i.1 (tt, ap birth_in_hand (sym i.1) ∙ same)
kept_hand false holding value birth is same = (is, same)

valued_hand : (b : Bool) (before after : Option Holding) (value birth : ℕ) → after ≡ with_kept_value b before value →
    IsInHand before × (birth_in_hand before ≡ birth) → IsInHand after × (birth_in_hand after ≡ birth)
valued_hand b before after value birth now was = rw now (kept_hand b before value birth was.0 was.1)

entry_is : (b : Bool) (holding : Option Holding) (key value birth : ℕ) (link : Link) → IsInHand holding →
    birth_in_hand holding ≡ birth →
    IsFilled (with_link (with_kept_value b (with_key holding key) value) link) birth key link ×
    (b ≡ true → value_in_hand (with_link (with_kept_value b (with_key holding key) value) link) ≡ Some value)
entry_is true holding key value birth link is same =
    let i = in_hand_is holding is in (
      record {
        known = record i.0 { key = Some key; value = Some value; link = Some link };
        holding_is = ap (λ (o : Option Holding). with_link (with_value (with_key o key) value) link) i.1;
        birth_is = ap birth_in_hand (sym i.1) ∙ same;
        key_is = refl;
        link_is = refl;
      },
      λ has. ap (λ (o : Option Holding). value_in_hand (with_link (with_value (with_key o key) value) link)) i.1,
    )
entry_is false holding key value birth link is same = (filled_is holding key birth link is same, λ has. absurd (cc))

-- ---- the stores

pub key_stored_quiet : {p q : Trace} {s key r : ℕ} → Did (StoreKey s key) p q r → Quiet p q
key_stored_quiet d = did_quiet d (λ know. refl)

pub link_stored_quiet : {p q : Trace} {s r : ℕ} {next : Option ℕ} → Did (StoreLink s next) p q r → Quiet p q
link_stored_quiet d = did_quiet d (λ know. refl)

keeps_owned : (know later : Know) (s : ℕ) (holding : Option Holding) → later ≡ with_own know s holding →
    Keeps know later
keeps_owned know later s holding is = rw is (record { epoch = refl; reads = λ r k. record { among = k.among } })

pub value_stored_keeps : {p q : Trace} {s value r : ℕ} → Did (StoreValue s value) p q r → Keeps (knows p) (knows q)
value_stored_keeps d = keeps_owned _ _ _ _ d.know

pub value_stored_quiet : {p q : Trace} {s value r : ℕ} → Did (StoreValue s value) p q r → Quiet p q
value_stored_quiet d = did_quiet d (λ know. refl)

pub value_stored : {p q : Trace} {s value r : ℕ} → Did (StoreValue s value) p q r →
    (knows q).own s ≡ with_value ((knows p).own s) value
value_stored {p} {q} {s} {value} d = ap (λ (k : Know). k.own s) d.know ∙ put_here (knows p).own s _

pub key_stored_keeps : {p q : Trace} {s key r : ℕ} → Did (StoreKey s key) p q r → Keeps (knows p) (knows q)
key_stored_keeps d = keeps_owned _ _ _ _ d.know

pub link_stored_keeps : {p q : Trace} {s r : ℕ} {next : Option ℕ} → Did (StoreLink s next) p q r →
    Keeps (knows p) (knows q)
link_stored_keeps d = keeps_owned _ _ _ _ d.know

-- the birth in hand once the key is stored
keyed_hand : {p q : Trace} {s key r birth : ℕ} → Did (StoreKey s key) p q r → IsInHand ((knows p).own s) →
    birth_in_hand ((knows p).own s) ≡ birth → IsInHand ((knows q).own s) × (birth_in_hand ((knows q).own s) ≡ birth)
keyed_hand {p} {q} {s} {key} {r} {birth} d is same =
    let now : (knows q).own s ≡ with_key ((knows p).own s) key =
    ap (λ (k : Know). k.own s) d.know ∙ put_here (knows p).own s _ in
    let k = keyed ((knows p).own s) key birth is same in
    rw now k

-- the slot in hand is ready for its link: it is in hand with this birth, what it is to stand behind is held, and
-- this is the birth of what comes next there
pub record IsReady (p : PassView) (pred : Held) (s birth next : ℕ) : Type 0 where
  pub low : s < p.trace.start.shape.slots
  pub hand : IsInHand ((knows p.trace).own s) × (birth_in_hand ((knows p.trace).own s) ≡ birth)
  pub held : IsHeld (knows p.trace) pred
  pub named : BirthNamed (knows p.trace) (link_of pred.word).slot next

-- it is so once its key and its value are stored
pub ready : {p q r : PassView} {s key one value : ℕ} (hand : HandView) (pred : Held) (next : ℕ) → PassLaw p →
    IsHandOf p hand → s ≡ hand.slot → IsHeld (knows p.trace) pred →
    BirthNamed (knows p.trace) (link_of pred.word).slot next → Did (StoreKey s key) p.trace q.trace one →
    PutsValue q r s value → Keeps (knows q.trace) (knows r.trace) → IsReady r pred s hand.birth next
ready {p} {q} {r} {s} {key} {one} {value} hand pred next law is same held named d put more =
    let in_hand = hand_at p law hand is s same in
    let keeps = keeps_on (key_stored_keeps d) more in
    let P : Start → Type 0 = λ start. s < start.shape.slots in
    record {
      low = subst P (sym (put.quiet.same.start ∙ d.same.1)) in_hand.0;
      hand = valued_hand q.trace.start.shape.values ((knows q.trace).own s) ((knows r.trace).own s) value hand.birth
          put.holding (keyed_hand d in_hand.1 in_hand.2);
      held = held_kept pred keeps held;
      named = birth_named_kept (link_of pred.word).slot next keeps named;
    }

-- the link that is stored, by any birth that is known of what it names
module _ (p : PassView) (sound : PassLaw p) (pred : Held) (s birth next : ℕ)
    (is_ready : IsReady p pred s birth next) where
  named_in : (slot : Option ℕ) → ((n : ℕ) → slot ≡ Some n → IsHeldSlot (knows p.trace) n) → IsNextIn p.trace.start slot
  named_in None held = tt
  named_in (Some n) held = slot_in p sound n (held n refl)

  named_known : (slot : Option ℕ) → ((n : ℕ) → slot ≡ Some n → IsHeldSlot (knows p.trace) n) →
      BirthNamed (knows p.trace) slot next → IsNextKnown (knows p.trace) slot
  named_known None held k = tt
  named_known (Some n) held k = (held n refl, (next, k))

  held : (n : ℕ) → (link_of pred.word).slot ≡ Some n → IsHeldSlot (knows p.trace) n
  held n names = named_slot pred n is_ready.held names

  pub link_accepted : Accepts p.trace.start (knows p.trace) (StoreLink s (link_of pred.word).slot)
  link_accepted =
      known_accepts p.trace.start p.trace.passes p.trace.seen sound.start sound.is_run p.trace.who
      (StoreLink s (link_of pred.word).slot) (record {
        in_shape = (is_ready.low, named_in (link_of pred.word).slot held);
        owned = is_ready.hand.0;
        known = named_known (link_of pred.word).slot held is_ready.named;
        in_range = tt;
        below_last = tt;
      })

  link_stored_is : link_written (knows p.trace) (StoreLink s (link_of pred.word).slot)
      ≡ link_to (link_of pred.word).slot birth next
  link_stored_is =
      written_is p.trace.start p.trace.passes p.trace.seen sound.start sound.is_run p.trace.who
      (StoreLink s (link_of pred.word).slot)
      (link_to (link_of pred.word).slot (birth_in_hand ((knows p.trace).own s)) next) (next, is_ready.named, refl)
      ∙ ap (λ (b : ℕ). link_to (link_of pred.word).slot b next) is_ready.hand.1

  pub link_now : (slot : Option ℕ) → slot ≡ (link_of pred.word).slot →
      link_written (knows p.trace) (StoreLink s slot) ≡ link_to (link_of pred.word).slot birth next
  link_now slot e = ap (λ (o : Option ℕ). link_written (knows p.trace) (StoreLink s o)) e ∙ link_stored_is

-- the slot in hand once all is stored
pub filled : {p q t r : Trace} {s key birth one two : ℕ} {next : Option ℕ} {link : Link} (b : Bool) (value : ℕ) →
    Did (StoreKey s key) p q one → (knows t).own s ≡ with_kept_value b ((knows q).own s) value →
    Did (StoreLink s next) t r two → IsInHand ((knows p).own s) → birth_in_hand ((knows p).own s) ≡ birth →
    link_written (knows t) (StoreLink s next) ≡ link
    → IsFilled ((knows r).own s) birth key link × (b ≡ true → value_in_hand ((knows r).own s) ≡ Some value)
filled {p} {q} {t} {r} {s} {key} {birth} {one} {two} {next} {link} b value d put e is same written =
    let first : (knows q).own s ≡ with_key ((knows p).own s) key =
    ap (λ (k : Know). k.own s) d.know ∙ put_here (knows p).own s _ in
    let second : (knows r).own s ≡ with_link ((knows t).own s) (link_written (knows t) (StoreLink s next)) =
    ap (λ (k : Know). k.own s) e.know ∙ put_here (knows t).own s _ in
    let mid : (knows t).own s ≡ with_kept_value b (with_key ((knows p).own s) key) value =
    put ∙ ap (λ (o : Option Holding). with_kept_value b o value) first in
    let now : (knows r).own s ≡ with_link (with_kept_value b (with_key ((knows p).own s) key) value) link =
    second ∙ (λ i. with_link (mid i) (written i)) in
    let f = entry_is b ((knows p).own s) key value birth link is same in (
      record {
        known = f.0.known;
        holding_is = now ∙ f.0.holding_is;
        birth_is = f.0.birth_is;
        key_is = f.0.key_is;
        link_is = f.0.link_is;
      },
      λ has. ap value_in_hand now ∙ f.1 has,
    )

-- so it is once an entry was filled in, by any name of the slot
module _ {p q : PassView} {pred : Held} {hand : HandView} {key value birth s : ℕ}
    (fills : FillsEntry p q pred hand key value birth) (is : s ≡ hand.slot) where
  pub filled_there : IsFilled ((knows q.trace).own s) hand.birth key (link_to (link_of pred.word).slot hand.birth birth)
  filled_there =
      let P : ℕ → Type 0 =
      λ t. IsFilled ((knows q.trace).own t) hand.birth key (link_to (link_of pred.word).slot hand.birth birth) in
      subst P (sym is) fills.fills.filled

  pub valued_there : q.trace.start.shape.values ≡ true → value_in_hand ((knows q.trace).own s) ≡ Some value
  valued_there has =
      let P : ℕ → Type 0 = λ t. value_in_hand ((knows q.trace).own t) ≡ Some value in
      subst P (sym is)
      (fills.valued (ap (λ (d : Start). d.shape.values) (sym fills.fills.quiet.same.start) ∙ has))

  pub in_hand_there : PassLaw q → p.hand ≡ Some hand.slot →
      (s < q.trace.start.shape.slots) × IsInHand ((knows q.trace).own s) ×
      (birth_in_hand ((knows q.trace).own s) ≡ hand.birth)
  in_hand_there law held =
      let filled = fills.fills.filled in
      hand_at q law hand
      (record { slot = fills.fills.hand ∙ held; birth = ap birth_in_hand filled.holding_is ∙ filled.birth_is }) s is

  -- a link to it fits behind what is held
  pub fits_there : {own : ℕ} → PassLaw q → p.hand ≡ Some hand.slot → IsHeld (knows q.trace) pred → own ≡ hand.birth →
      IsLink (link_to (Some s) pred.birth own)
  fits_there {own} law in_hand held own_is =
      let there = in_hand_there law in_hand in
      let low = there.0 in
      let most = law.start.shape.slots in
      fits q law (Some s) pred.birth own (omega (arith, low, most)) (birth_at_low q law pred.at pred.birth held.birth)
      (birth_in_hand_low q law s own (there.2 ∙ sym own_is))

  -- and has room
  pub room_there : {own : ℕ} → PassLaw q → p.hand ≡ Some hand.slot → IsHeld (knows q.trace) pred → own ≡ hand.birth →
      IsPackable (slot_bits q.trace.start.shape.slots) (word_of (link_to (Some s) pred.birth own))
  room_there {own} law in_hand held own_is =
      let there = in_hand_there law in_hand in
      has_room q law (Some s) pred.birth own there.0 (birth_at_low q law pred.at pred.birth held.birth)
      (birth_in_hand_low q law s own (there.2 ∙ sym own_is))

  pub marked_room_there : {own : ℕ} → PassLaw q → p.hand ≡ Some hand.slot → IsHeld (knows q.trace) pred → own ≡
      hand.birth →
      IsPackable (slot_bits q.trace.start.shape.slots) (word_of (marked (link_to (Some s) pred.birth own)))
  marked_room_there {own} law in_hand held own_is =
      let there = in_hand_there law in_hand in
      marked_has_room q law (Some s) pred.birth own there.0 (birth_at_low q law pred.at pred.birth held.birth)
      (birth_in_hand_low q law s own (there.2 ∙ sym own_is))

-- ---- the publication

module _ (p : PassView) (sound : PassLaw p) (pred : Held) (s key birth next : ℕ) (h : IsHeld (knows p.trace) pred)
    (f : IsFilled ((knows p.trace).own s) birth key (link_to (link_of pred.word).slot birth next)) where
  filled_hand : IsInHand ((knows p.trace).own s)
  filled_hand = let P : Option Holding → Type 0 = IsInHand in subst P (sym f.holding_is) tt

  pub publish_accepted : (value : ℕ) →
      (p.trace.start.shape.values ≡ true → value_in_hand ((knows p.trace).own s) ≡ Some value) →
      (link_of pred.word).mark ≡ false → s < p.trace.start.shape.slots →
      BirthNamed (knows p.trace) (link_of pred.word).slot next →
      StandsBehind p.trace.start (knows p.trace) pred.at key →
      StandsBefore (knows p.trace) key (link_of pred.word).slot →
      Accepts p.trace.start (knows p.trace) (Publish pred.at pred.word s)
  publish_accepted value valued unmarked low k i j =
      let P : Option Holding → Type 0 = MayPublishKnown p.trace.start (knows p.trace) pred.at (link_of pred.word) in
      known_accepts p.trace.start p.trace.passes p.trace.seen sound.start sound.is_run p.trace.who
      (Publish pred.at pred.word s) (record {
        in_shape = (place_in p sound pred h, low);
        owned = filled_hand;
        known = (h.link, (pred.birth, h.birth));
        in_range = (
          unmarked,
          subst P (sym f.holding_is) (record {
            key = key;
            key_is = f.key_is;
            named = next;
            named_known = k;
            link_is = f.link_is ∙ ap (λ (b : ℕ). Some (link_to (link_of pred.word).slot b next)) (sym f.birth_is);
            behind = i;
            before = j;
            valued = value_asked p.trace.start.shape.values f.known.value value
                (λ has. sym (ap value_in_hand f.holding_is) ∙ valued has);
          }),
        );
        below_last = tt;
      })

  publish_written : link_written (knows p.trace) (Publish pred.at pred.word s) ≡ link_to (Some s) pred.birth birth
  publish_written =
      written_is p.trace.start p.trace.passes p.trace.seen sound.start sound.is_run p.trace.who
      (Publish pred.at pred.word s) (link_to (Some s) pred.birth (birth_in_hand ((knows p.trace).own s)))
      (pred.birth, h.birth, refl)
      ∙ ap (λ (o : Option Holding). link_to (Some s) pred.birth (birth_in_hand o)) f.holding_is
      ∙ ap (λ (b : ℕ). link_to (Some s) pred.birth b) f.birth_is

  -- so it writes the word of the link to the slot
  pub publish_writes : {own word : ℕ} → word ≡ word_of (link_to (Some s) pred.birth own) → own ≡ birth →
      word ≡ word_of (link_written (knows p.trace) (Publish pred.at pred.word s))
  publish_writes is same = is ∙ ap (λ (b : ℕ). word_of (link_to (Some s) pred.birth b)) same
      ∙ ap word_of (sym publish_written)

  pub publish_made : {q : Trace} (value : ℕ) →
      (p.trace.start.shape.values ≡ true → value_in_hand ((knows p.trace).own s) ≡ Some value) →
      Did (Publish pred.at pred.word s) p.trace q pred.word →
      Made (entry_call p.trace.start p.trace.who Insert key true value) p.trace q
  publish_made value valued d = published d _
      (ap (λ (o : Option Holding).
      Some (record {
        who = p.trace.who;
        op = Insert;
        key = key_in_hand o;
        reply = true;
        value = payload_kept p.trace.start (value_in_hand o);
      })) f.holding_is
      ∙ ap (λ (o : Option ℕ).
      Some (record {
        who = p.trace.who;
        op = Insert;
        key = unwrap_or o 0;
        reply = true;
        value = payload_kept p.trace.start f.known.value;
      })) f.key_is
      ∙ ap (λ (v : Option ℕ). Some (record { who = p.trace.who; op = Insert; key = key; reply = true; value = v }))
      (kept_same p.trace.start.shape.values f.known.value value
      (λ has. sym (ap value_in_hand f.holding_is) ∙ valued has)))
