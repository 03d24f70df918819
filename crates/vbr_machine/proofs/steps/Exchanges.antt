-- The links of the image once an incarnation was inserted behind a place.
use Rattle.std.proofs.Common.{◌≡◌, ◌≢◌, ℕ, ◌≤◌, Bool, true, Option, Some, None, refl, sym, ap, ◌∙◌, inl, inr, subst}
use Rattle.std.proofs.Common.{⊎_elim}
use Rattle.std.specs.Prelude.{◌⊎◌, List, unwrap_or, if◌then◌else◌}
use Rattle.std.proofs.lemmas.Bool.{cases_eq}
use Rattle.vbr_machine.specs.Start.{Start}
use Rattle.vbr_words.specs.declared.link.Link.{Link}
use Rattle.vbr_words.specs.declared.place.At.{At}
use Rattle.vbr_words.specs.declared.place.At.TheVariants.{Head, Slot}
use Rattle.vbr_machine.specs.Put.{put}
use Rattle.vbr_machine.specs.Links.{link_to}
use Rattle.vbr_machine.specs.Opened.{payload_kept}
use Rattle.vbr_machine.specs.Machine.{World, with_link_at}
use Rattle.vbr_machine.specs.Machine as machine
use Rattle.vbr_machine.specs.Knowledge.{Know, birth_of}
use Rattle.vbr_machine.specs.Acceptance.{HasValue, MayPublish, IsBehind, IsBefore}
use Rattle.vbr_machine.specs.Learning.{with_own, with_checked, reads_won, link_written, birth_in_hand, key_in_hand}
use Rattle.vbr_machine.specs.Learning.{value_in_hand, link_in_hand}
use Rattle.vbr_machine.specs.Incarnations.{Linked, Incarnations, last_in, payload_of}
use Rattle.vbr_machine.specs.Incarnations as state
use Rattle.vbr_machine.specs.Images.{birth_shown, key_shown, value_shown, link_to_next, link_in_state, link_shown}
use Rattle.vbr_machine.specs.Images.{link_shown_at, IsImage}
use Rattle.vbr_machine.specs.Chronicles.{Inserts, AtHead, AtNode, MayInsert, becomes}
use Rattle.vbr_machine.specs.Sound.{Sound}
use Rattle.vbr_machine.specs.Notes.{before_at, last_at}
use Rattle.vbr_machine.specs.Agreement.{IsStored, OwnFits}
use Rattle.vbr_machine.specs.declared.knowledge.Read.{Read}
use Rattle.vbr_machine.specs.declared.knowledge.Holding.{Holding}
use Rattle.vbr_machine.specs.declared.knowledge.Unpublished.{Unpublished}
use Rattle.vbr_machine.specs.declared.knowledge.Holding.TheVariants.{InHand}
use Rattle.vbr_machine.specs.declared.history.Call.{Call}
use Rattle.vbr_machine.specs.declared.event.Step.{Step}
use Rattle.vbr_machine.specs.declared.knowledge.SlotPlace.{SlotPlace}
use Rattle.vbr_machine.specs.declared.knowledge.SlotPlace.TheVariants.{Hand}
use Rattle.vbr_machine.proofs.words.Puts.{put_here, put_other}
use Rattle.vbr_machine.proofs.reads.OwnSlots.{lasts_differ}
use Rattle.vbr_machine.proofs.chronicles.Shown.{to_next_same, link_kept, key_kept, value_kept, birth_kept}
use Rattle.vbr_machine.proofs.reads.ValueReads.{stored_is, stored_there, stored_kept}
use Rattle.vbr_machine.proofs.reads.StandingLinks.{node_at, birth_there}

-- one link was exchanged
pub exchanged : (w : World) (a b : Incarnations) (pred : At) (new : Link) → IsImage w a → link_shown_at b pred ≡ new →
    ((place : At) → place ≢ pred → link_shown_at b place ≡ link_shown_at a place) → (place : At) →
    machine.link_at (with_link_at w pred new) place ≡ link_shown_at b place
exchanged w a b (Head h) new i here there (Head v) = go (cases_eq v h)
  where
    go : (v ≡ h) ⊎ (v ≢ h) → put w.head h new v ≡ link_shown_at b (Head v)
    go (inl e) = rw e (put_here w.head h new ∙ sym here)
    go (inr ne) = put_other w.head h new v ne ∙ i.head v ∙ sym (there (Head v) (λ e. ne (cc)))
exchanged w a b (Head h) new i here there (Slot v) = i.link v ∙ sym (there (Slot v) (λ e. cc))
exchanged w a b (Slot q) new i here there (Head v) = i.head v ∙ sym (there (Head v) (λ e. cc))
exchanged w a b (Slot q) new i here there (Slot v) = go (cases_eq v q)
  where
    go : (v ≡ q) ⊎ (v ≢ q) → put w.link q new v ≡ link_shown_at b (Slot v)
    go (inl e) = rw e (put_here w.link q new ∙ sym here)
    go (inr ne) = put_other w.link q new v ne ∙ i.link v ∙ sym (there (Slot v) (λ e. ne (cc)))

-- the world after an exchange of a link, by whether its pass learns: that it has checked what the step makes it
-- check, and owns a slot so
abbrev pub exchanged_world : World → ℕ → At → Step → ℕ → Option Holding → (ℕ → SlotPlace) → List Call → Bool → World
exchanged_world w p pred step s holding place calls t = with_link_at (record w {
  know = put w.know p
      (if t then with_own (with_checked (w.know p) (reads_won (w.know p) step)) s holding else w.know p);
  place = place;
  calls = calls;
}) pred (link_written (w.know p) step)

-- a world with one link exchanged: but for that, only what passes know, the places and the calls are others
pub record IsExchanged (w v : World) (pred : At) (new : Link) : Type 0 where
  pub epoch : v.epoch ≡ w.epoch
  pub link : (place : At) → machine.link_at v place ≡ machine.link_at (with_link_at w pred new) place
  pub birth : v.birth ≡ w.birth
  pub key : v.key ≡ w.key
  pub value : v.value ≡ w.value
  pub stamp : v.stamp ≡ w.stamp
  pub births : v.births ≡ w.births

pub is_exchanged : (w : World) (know : ℕ → Know) (place : ℕ → SlotPlace) (calls : List Call) (pred : At) (new : Link) →
    IsExchanged w (with_link_at (record w { know = know; place = place; calls = calls }) pred new) pred new
is_exchanged w know place calls pred new =
    record {
      epoch = (same pred).0;
      link = link pred;
      birth = (same pred).1;
      key = (same pred).2;
      value = (same pred).3;
      stamp = (same pred).4;
      births = (same pred).5;
    }
  where
    v : At → World
    v pred = with_link_at (record w { know = know; place = place; calls = calls }) pred new

    link : (pred place : At) → machine.link_at (v pred) place ≡ machine.link_at (with_link_at w pred new) place
    link (Head h) (Head b) = refl
    link _ _ = refl

    same : (pred : At) →
        ((v pred).epoch ≡ w.epoch) × ((v pred).birth ≡ w.birth) × ((v pred).key ≡ w.key) × ((v pred).value ≡ w.value) ×
        ((v pred).stamp ≡ w.stamp) × ((v pred).births ≡ w.births)
    same (Head h) = (refl, refl, refl, refl, refl, refl)
    same _ = (refl, refl, refl, refl, refl, refl)

-- a link that is written leaves what passes know, the places and the calls
pub link_leaves : (w : World) (pred : At) (new : Link) →
    ((with_link_at w pred new).know ≡ w.know) × ((with_link_at w pred new).place ≡ w.place) ×
    ((with_link_at w pred new).calls ≡ w.calls)
link_leaves w (Head h) new = (refl, refl, refl)
link_leaves w _ new = (refl, refl, refl)

-- the image once a link was exchanged, where the incarnations show the new one at its place and the same ones elsewhere
pub image_exchanged : (w v : World) (a b : Incarnations) (pred : At) (new : Link) → IsImage w a →
    IsExchanged w v pred new → link_shown_at b pred ≡ new →
    ((holder : At) → holder ≢ pred → link_shown_at b holder ≡ link_shown_at a holder) →
    b.epoch ≡ a.epoch → b.birth ≡ a.birth → b.key ≡ a.key → b.value ≡ a.value → b.last ≡ a.last → b.stamp ≡ a.stamp →
    ((s : ℕ) → v.place s ≡ b.place s) → IsImage v b
image_exchanged w v a b pred new i x here there ae abi ak av ala ats place =
    let links = exchanged w a b pred new i here there in
    record {
      epoch = x.epoch ∙ i.epoch ∙ sym ae;
      head = λ k. x.link (Head k) ∙ links (Head k);
      link = λ k. x.link (Slot k) ∙ links (Slot k);
      birth = λ s.
          ap (λ f. f s) x.birth ∙ i.birth s
          ∙ sym (ap (λ f. birth_shown b (f s)) ala ∙ birth_kept a b (a.last s) (λ c q. ap (λ f. f c) abi));
      key = λ s. ap (λ f. f s) x.key ∙ i.key s
          ∙ sym (ap (λ f. key_shown b (f s)) ala ∙ key_kept a b (a.last s) (λ c q. ap (λ f. f c) ak));
      value = λ s.
          ap (λ f. f s) x.value ∙ i.value s
          ∙ sym (ap (λ f. value_shown b (f s)) ala ∙ value_kept a b (a.last s) (λ c q. ap (λ f. f c) av));
      stamp = λ s. ap (λ f. f s) x.stamp ∙ i.stamp s ∙ sym (ap (λ f. f s) ats);
      place = place;
    }

-- a slot shows the link that it showed, where it does so by c as its last incarnation, and by each other one
pub shown_as_before : (a b : Incarnations) (c v : ℕ) →
    ((d : ℕ) → a.last v ≡ Some d → d ≡ c → link_shown b (Some d) ≡ link_shown a (Some d)) →
    ((d : ℕ) → a.last v ≡ Some d → d ≢ c → link_shown b (Some d) ≡ link_shown a (Some d)) →
    link_shown b (a.last v) ≡ link_shown a (a.last v)
shown_as_before a b c v here other = go (a.last v) refl
  where
    go : (l : Option ℕ) → a.last v ≡ l → link_shown b l ≡ link_shown a l
    go None e = refl
    go (Some d) e = ⊎_elim (here d e) (other d e) (cases_eq d c)

-- the links elsewhere once c was inserted behind the place
pub inserted_there : {start : Start} {a : Incarnations} → Sound start a → (p c : ℕ) (pred : At) →
    last_at a pred ≡ node_at a pred → MayInsert start a p c (before_at a pred) → (place : At) → place ≢ pred →
    link_shown_at (becomes start a p (Inserts c (before_at a pred))) place ≡ link_shown_at a place
inserted_there {start} {a} snd p c (Head h) lq m (Head v) ne =
    to_next_same a (becomes start a p (Inserts c (AtHead h))) refl refl 0 (put a.first h (Some c) v)
    ∙ ap (link_to_next a 0) (put_other a.first h (Some c) v (λ e. ne (ap Head e)))
inserted_there {start} {a} snd p c (Slot q) lq m (Head v) ne =
    to_next_same a (becomes start a p (Inserts c (AtNode (last_in a q)))) refl refl 0 (a.first v)
inserted_there {start} {a} snd p c (Head h) lq m (Slot v) ne =
    let b = becomes start a p (Inserts c (AtHead h)) in
    shown_as_before a b c v
    (λ d _ e. rw (e, put_here a.state c Linked, m.in_hand)
    (rw m.link (to_next_same a b refl refl (a.birth c) (put a.next c (a.first h) c)
    ∙ ap (link_to_next a (a.birth c)) (put_here a.next c (a.first h)))))
    (λ d _ r. link_kept a b refl refl (Some d)
    (λ i s. let z : i ≡ d = cc in
    (put_other a.state c Linked i (λ y. r (sym z ∙ y)), refl, put_other a.next c (a.first h) i (λ y. r (sym z ∙ y)))))
inserted_there {start} {a} snd p c (Slot q) lq m (Slot v) ne =
    shown_as_before a (becomes start a p (Inserts c (AtNode (last_in a q)))) c v (λ d _ r. here d r) kept
  where
    kc : c ≢ last_in a q
    kc e = let x = m.in_hand in let y : a.state c ≡ Linked = rw e m.is_open in cc

    here : (d : ℕ) → d ≡ c →
        link_in_state (becomes start a p (Inserts c (AtNode (last_in a q)))) d (put a.state c Linked d)
        ≡ link_in_state a d (a.state d)
    here d e = rw (e, put_here a.state c Linked, m.in_hand)
        (rw m.link (to_next_same a (becomes start a p (Inserts c (AtNode (last_in a q)))) refl refl (a.birth c)
        (put (put a.next c (a.next (last_in a q))) (last_in a q) (Some c) c)
        ∙ ap (link_to_next a (a.birth c))
        (put_other (put a.next c (a.next (last_in a q))) (last_in a q) (Some c) c kc
        ∙ put_here a.next c (a.next (last_in a q)))))

    kept : (d : ℕ) → a.last v ≡ Some d → d ≢ c →
        link_shown (becomes start a p (Inserts c (AtNode (last_in a q)))) (Some d) ≡ link_shown a (Some d)
    kept d e r =
        let dk : d ≢ last_in a q = lasts_differ snd.slots v q (last_in a q) d (λ z. ne (ap Slot z)) lq e in
        link_kept a (becomes start a p (Inserts c (AtNode (last_in a q)))) refl refl (Some d)
        (λ i s. let z : i ≡ d = cc in (
          put_other a.state c Linked i (λ y. r (sym z ∙ y)),
          refl,
          put_other (put a.next c (a.next (last_in a q))) (last_in a q) (Some c) i (λ y. dk (sym z ∙ y))
              ∙ put_other a.next c (a.next (last_in a q)) i (λ y. r (sym z ∙ y)),
        ))

-- the link at the place itself
pub inserted_here : {start : Start} {a : Incarnations} → (p c : ℕ) (pred : At) → last_at a pred ≡ node_at a pred →
    MayInsert start a p c (before_at a pred) →
    link_shown_at (becomes start a p (Inserts c (before_at a pred))) pred
    ≡ link_to (Some (a.slot c)) (birth_there a pred) (a.birth c)
inserted_here {start} {a} p c (Head h) lq m =
    ap (link_to_next (becomes start a p (Inserts c (AtHead h))) 0) (put_here a.first h (Some c))
inserted_here {start} {a} p c (Slot q) lq m =
    let k = last_in a q in
    let b = becomes start a p (Inserts c (AtNode k)) in
    let kc : k ≢ c = λ e. let x = m.in_hand in let y : a.state c ≡ Linked = rw e at m.is_open in cc in
    ap (link_shown b) lq ∙ ap (link_in_state b k) (put_other a.state c Linked k kc ∙ m.is_open)
    ∙ ap (link_to_next b (a.birth k)) (put_here (put a.next c (a.next k)) k (Some c))

-- a slot in hand in which a key, a link and, where nodes have values, a value were stored: the key is this one, and
-- the link names what the expected link names, by a birth
pub record FilledFacts (start : Start) (a : Incarnations) (p s e : ℕ) (key : ℕ) (next : Option ℕ) (birth : ℕ)
    (holding : Option Holding) : Type 0 where
  pub last : a.last s ≡ Some (last_in a s)
  pub state : a.state (last_in a s) ≡ state.InHand p
  pub place : a.place s ≡ Hand p
  pub born : a.birth (last_in a s) ≤ e
  pub keyed : a.is_keyed (last_in a s) ≡ true
  pub aimed : a.is_aimed (last_in a s) ≡ true
  pub birth_is : birth_in_hand holding ≡ a.birth (last_in a s)
  pub key_is : key_in_hand holding ≡ a.key (last_in a s)
  pub link_is : link_in_hand holding ≡ a.link (last_in a s)
  pub key_ready : a.key (last_in a s) ≡ key
  pub link_ready : a.link (last_in a s) ≡ link_to next (a.birth (last_in a s)) birth
  pub value_is : (x : ℕ) → value_in_hand holding ≡ Some x → a.value (last_in a s) ≡ x
  pub valued : start.shape.values ≡ true → a.is_valued (last_in a s) ≡ true
  pub payload : payload_kept start (value_in_hand holding) ≡ payload_of start a (last_in a s)

pub filled_facts : (start : Start) (a : Incarnations) (p s e key : ℕ) (next : Option ℕ) (birth : ℕ)
    (known : Unpublished) → OwnFits a p e (Some (InHand known)) (a.place s) (a.last s) (a.stamp s) →
    known.key ≡ Some key → known.link ≡ Some (link_to next known.birth birth) →
    HasValue start.shape.values known.value → FilledFacts start a p s e key next birth (Some (InHand known))
filled_facts start a p s e key next birth known h key_is link_is has_value =
    let x = h.1 in
    let keyed = subst (λ (o : Option ℕ). IsStored (a.is_keyed x.node) (a.key x.node) o) key_is x.keyed in
    let aimed = subst (λ (o : Option Link). IsStored (a.is_aimed x.node) (a.link x.node) o) link_is x.aimed in
    let l : last_in a s ≡ x.node = rw x.last_is refl in
    let b : a.birth (last_in a s) ≡ known.birth = ap a.birth l ∙ x.birth_is in
    let k : a.key (last_in a s) ≡ key = ap a.key l ∙ keyed.1 in
    record {
      last = x.last_is ∙ ap Some (sym l);
      state = ap a.state l ∙ x.state;
      place = h.0;
      born = rw l x.born;
      keyed = ap a.is_keyed l ∙ keyed.0;
      aimed = ap a.is_aimed l ∙ aimed.0;
      birth_is = sym b;
      key_is = rw key_is (sym k);
      link_is = rw link_is (sym (ap a.link l ∙ aimed.1));
      key_ready = k;
      link_ready = ap a.link l ∙ aimed.1 ∙ ap (λ i. link_to next i birth) (sym b);
      value_is = λ y e. ap a.value l ∙ stored_is (a.is_valued x.node) (a.value x.node) known.value x.valued y e;
      valued = λ e.
          ap a.is_valued l
          ∙ stored_there start.shape.values (a.is_valued x.node) (a.value x.node) known.value has_value x.valued e;
      payload = stored_kept start.shape.values (a.is_valued x.node) (a.value x.node) known.value has_value x.valued
          ∙ ap (λ n. payload_kept start (Some (a.value n))) (sym l);
    }

-- a slot in hand that is ready to be inserted
pub record ReadyFacts (start : Start) (a : Incarnations) (p s e : ℕ) (reads : List Read) (pred : At) (expected : Link)
    (holding : Option Holding) : Type 0 where
  pub key : ℕ
  pub filled : FilledFacts start a p s e key expected.slot (unwrap_or (birth_of reads expected.slot) 0) holding
  pub open filled use *
  pub behind : IsBehind start reads pred (a.key (last_in a s))
  pub before : IsBefore reads (a.key (last_in a s)) expected.slot

pub ready_facts : (start : Start) (a : Incarnations) (p s e : ℕ) (reads : List Read) (pred : At) (expected : Link)
    (holding : Option Holding) → OwnFits a p e holding (a.place s) (a.last s) (a.stamp s) →
    MayPublish start reads pred expected holding → ReadyFacts start a p s e reads pred expected holding
ready_facts start a p s e reads pred expected (Some (InHand known)) h r =
    let f = filled_facts start a p s e r.key expected.slot (unwrap_or (birth_of reads expected.slot) 0) known h r.key_is
    r.link_is r.valued in
    record { key = r.key; filled = f; behind = rw f.key_ready r.behind; before = rw f.key_ready r.before }
ready_facts start a p s e reads pred expected _ h r = absurd r
