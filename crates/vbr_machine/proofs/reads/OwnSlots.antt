-- What the passes know of their slots, after each kind of change.
use Rattle.std.proofs.Common.{◌≡◌, ◌≢◌, ℕ, ◌≤◌, Bool, true, Option, Some, None, refl, arith, sym, ap, ◌∙◌, inl, inr}
use Rattle.std.specs.Prelude.{◌⊎◌}
use Rattle.std.proofs.lemmas.Bool.{cases_eq}
use Rattle.vbr_machine.specs.Start.{Start}
use Rattle.vbr_machine.specs.Put.{put}
use Rattle.vbr_machine.specs.Knowledge.{Know}
use Rattle.vbr_machine.specs.Incarnations.{Incarnations}
use Rattle.vbr_machine.specs.Sound.{SlotsSound}
use Rattle.vbr_machine.specs.Agreement.{IsNotOf, IsUnlinkedBy, OwnFits, Owns}
use Rattle.vbr_machine.specs.declared.knowledge.Holding.{Holding}
use Rattle.vbr_machine.specs.declared.knowledge.Holding.TheVariants.{Free, Unlinked, InHand}
use Rattle.vbr_machine.specs.declared.knowledge.SlotPlace.{SlotPlace}
use Rattle.vbr_machine.specs.declared.knowledge.SlotPlace.TheVariants.{Own, Hand}
use Rattle.vbr_machine.proofs.words.Puts.{put_here, put_other}

-- nothing that is known of an incarnation has changed
pub record IsUntouched (a b : Incarnations) (c : ℕ) : Type 0 where
  pub state : b.state c ≡ a.state c
  pub birth : b.birth c ≡ a.birth c
  pub key : b.key c ≡ a.key c
  pub is_keyed : b.is_keyed c ≡ a.is_keyed c
  pub value : b.value c ≡ a.value c
  pub is_valued : b.is_valued c ≡ a.is_valued c
  pub link : b.link c ≡ a.link c
  pub is_aimed : b.is_aimed c ≡ a.is_aimed c

-- b with the births and keys of a, and with the values and links of a
abbrev born_as : Incarnations → Incarnations → Incarnations
born_as a b = record b { birth = a.birth; key = a.key; is_keyed = a.is_keyed }

abbrev stored_as : Incarnations → Incarnations → Incarnations
stored_as a b = record b { value = a.value; is_valued = a.is_valued; link = a.link; is_aimed = a.is_aimed }

-- it is enough that the state stays, where nothing is born, stored or aimed
pub untouched_in : (a b : Incarnations) {last : Option ℕ} → ((c : ℕ) → last ≡ Some c → b.state c ≡ a.state c) →
    (c : ℕ) → last ≡ Some c → IsUntouched a (born_as a (stored_as a b)) c
untouched_in a b state c is =
    record {
      birth = refl;
      key = refl;
      is_keyed = refl;
      state = state c is;
      value = refl;
      is_valued = refl;
      link = refl;
      is_aimed = refl;
    }

-- an incarnation that a pass unlinked stays so where its state stays
pub unlinked_so : {a : Incarnations} {pass e : ℕ} {reread : Bool} {last : Option ℕ} (b : Incarnations) (f : ℕ)
    (again : Bool) (x : IsUnlinkedBy a pass e reread last) → b.state x.node ≡ a.state x.node →
    (again ≡ true → x.unlinked ≤ f) → IsUnlinkedBy b pass f again last
unlinked_so b f again x state seen = record {
  node = x.node;
  last_is = x.last_is;
  unlinked = x.unlinked;
  state = state ∙ x.state;
  seen = seen;
}

-- what is known of a slot stays where its last incarnation is untouched
pub own_kept : (a b : Incarnations) (pass e f : ℕ) (holding : Option Holding) (place : SlotPlace) (last : Option ℕ)
    (stamp : ℕ) → e ≤ f → ((c : ℕ) → last ≡ Some c → IsUntouched a b c) → OwnFits a pass e holding place last stamp →
    OwnFits b pass f holding place last stamp
own_kept a b pass e f None place last stamp le k h = h
own_kept a b pass e f (Some (Free known)) place None stamp le k h = h
own_kept a b pass e f (Some (Free known)) place (Some c) stamp le k h = (h.0, rw ((k c refl).state) h.1, h.2)
own_kept a b pass e f (Some (Unlinked reread)) place last stamp le k h =
    let x = h.1 in
    (h.0, unlinked_so b f reread x ((k x.node x.last_is).state) (λ t. let u = x.seen t in omega arith))
own_kept a b pass e f (Some (InHand known)) place last stamp le k h =
    let x = h.1 in
    let u = k x.node x.last_is in (
      h.0,
      record {
        node = x.node;
        last_is = x.last_is;
        state = u.state ∙ x.state;
        born = rw u.birth (let y = x.born in omega arith);
        birth_is = u.birth ∙ x.birth_is;
        keyed = rw (u.is_keyed, u.key) x.keyed;
        valued = rw (u.is_valued, u.value) x.valued;
        aimed = rw (u.is_aimed, u.link) x.aimed;
      },
      h.2,
    )

-- a pass knows nothing of a slot that is not its own
pub not_owned : (a : Incarnations) (pass e : ℕ) (holding : Option Holding) (place : SlotPlace) (last : Option ℕ)
    (stamp : ℕ) → OwnFits a pass e holding place last stamp → IsNotOf pass place → holding ≡ None
not_owned a pass e None place last stamp h n = refl
not_owned a pass e (Some (Free known)) place last stamp h n =
    absurd (let u = h.0 in let m : IsNotOf pass (Own pass) = rw u at n in m refl)
not_owned a pass e (Some (Unlinked reread)) place last stamp h n =
    absurd (let u = h.0 in let m : IsNotOf pass (Own pass) = rw u at n in m refl)
not_owned a pass e (Some (InHand known)) place last stamp h n =
    absurd (let u = h.0 in let m : IsNotOf pass (Hand pass) = rw u at n in m refl)

-- the place, the last incarnation and the stamp of a slot are as before, and the incarnation is untouched
pub record IsSlotKept (a b : Incarnations) (v : ℕ) : Type 0 where
  pub place : b.place v ≡ a.place v
  pub last : b.last v ≡ a.last v
  pub stamp : b.stamp v ≡ a.stamp v
  pub untouched : (c : ℕ) → a.last v ≡ Some c → IsUntouched a b c

-- so it is with the slots beside one of which the place was put, where the state of c alone changes, and c is the
-- last incarnation of none of them
pub kept_beside : (a b : Incarnations) (s c : ℕ) (place : SlotPlace) →
    ((v d : ℕ) → v ≢ s → a.last v ≡ Some d → d ≢ c) → ((v : ℕ) → b.place v ≡ put a.place s place v) →
    ((d : ℕ) → d ≢ c → b.state d ≡ a.state d) → (v : ℕ) → v ≢ s →
    IsSlotKept a (born_as a (stored_as a (record b { last = a.last; stamp = a.stamp }))) v
kept_beside a b s c place others places states v ne =
    record {
      place = places v ∙ put_other a.place s place v ne;
      last = refl;
      stamp = refl;
      untouched = untouched_in a (record b { last = a.last; stamp = a.stamp }) (λ d e. states d (others v d ne e));
    }

pub slot_kept : (a b : Incarnations) (q e f v : ℕ) (holding : Option Holding) → e ≤ f → IsSlotKept a b v →
    OwnFits a q e holding (a.place v) (a.last v) (a.stamp v) → OwnFits b q f holding (b.place v) (b.last v) (b.stamp v)
slot_kept a b q e f v holding le k h =
    rw (k.place, k.last, k.stamp) (own_kept a b q e f holding (a.place v) (a.last v) (a.stamp v) le k.untouched h)

-- nothing that is known of slots has changed
pub owns_kept : (a b : Incarnations) (know : ℕ → Know) → ((v : ℕ) → IsSlotKept a b v) → Owns a know → Owns b know
owns_kept a b know k o =
    λ q v. slot_kept a b q (know q).epoch (know q).epoch v ((know q).own v) (omega arith) (k v) (o q v)

-- nor where the slots and the states are the same
abbrev in_slots_as : Incarnations → Incarnations → Incarnations
in_slots_as a b = record b { place = a.place; last = a.last; stamp = a.stamp; state = a.state }

pub owns_same : (a b : Incarnations) (know : ℕ → Know) → Owns a know →
    Owns (born_as a (stored_as a (in_slots_as a b))) know
owns_same a b know o =
    let same = in_slots_as a b in
    owns_kept a (born_as a (stored_as a same)) know
    (λ v. record { place = refl; last = refl; stamp = refl; untouched = untouched_in a same (λ c _. refl) }) o

-- only what a pass has read has changed
pub owns_beside : (a : Incarnations) (know : ℕ → Know) (p : ℕ) (x : Know) → x.epoch ≡ (know p).epoch →
    ((v : ℕ) → x.own v ≡ (know p).own v) → Owns a know → Owns a (put know p x)
owns_beside a know p x e k o = λ q v. go q v (cases_eq q p)
  where
    go : (q v : ℕ) → (q ≡ p) ⊎ (q ≢ p) →
        OwnFits a q (put know p x q).epoch ((put know p x q).own v) (a.place v) (a.last v) (a.stamp v)
    go q v (inl i) = rw (i, put_here know p x, e, k v) (o p v)
    go q v (inr ne) = rw (put_other know p x q ne) (o q v)

-- a slot of which no other pass knows has changed, and what one pass knows of it
pub owns_moved : (a b : Incarnations) (know : ℕ → Know) (p s : ℕ) (x : Know) → x.epoch ≡ (know p).epoch →
    ((v : ℕ) → v ≢ s → x.own v ≡ (know p).own v) →
    ((q : ℕ) → q ≢ p → (know q).own s ≡ None) → ((q : ℕ) → q ≢ p → IsNotOf q (b.place s)) →
    ((v : ℕ) → v ≢ s → IsSlotKept a b v) → OwnFits b p x.epoch (x.own s) (b.place s) (b.last s) (b.stamp s) →
    ((q v : ℕ) → v ≢ s → OwnFits a q (know q).epoch ((know q).own v) (a.place v) (a.last v) (a.stamp v)) →
    Owns b (put know p x)
owns_moved a b know p s x e k was now kept here o = λ q v. go q v (cases_eq q p) (cases_eq v s)
  where
    go : (q v : ℕ) → (q ≡ p) ⊎ (q ≢ p) → (v ≡ s) ⊎ (v ≢ s) →
        OwnFits b q (put know p x q).epoch ((put know p x q).own v) (b.place v) (b.last v) (b.stamp v)
    go q v (inl i) (inl j) = rw (i, j, put_here know p x) here
    go q v (inl i) (inr nv) =
        rw (i, put_here know p x, k v nv)
        (slot_kept a b p (know p).epoch x.epoch v ((know p).own v) (omega (arith, e)) (kept v nv) (o p v nv))
    go q v (inr ne) (inl j) = rw (j, put_other know p x q ne, was q ne) (now q ne)
    go q v (inr ne) (inr nv) =
        rw (put_other know p x q ne)
        (slot_kept a b q (know q).epoch (know q).epoch v ((know q).own v) (omega arith) (kept v nv) (o q v nv))

-- a slot that was no other pass's and is no other's now has changed, and what the pass knows of it
pub owns_changed : (a b : Incarnations) (know : ℕ → Know) (p s : ℕ) (x : Know) → x.epoch ≡ (know p).epoch →
    ((v : ℕ) → v ≢ s → x.own v ≡ (know p).own v) →
    ((q : ℕ) → q ≢ p → IsNotOf q (a.place s)) → ((q : ℕ) → q ≢ p → IsNotOf q (b.place s)) →
    ((v : ℕ) → v ≢ s → IsSlotKept a b v) → OwnFits b p x.epoch (x.own s) (b.place s) (b.last s) (b.stamp s) →
    Owns a know → Owns b (put know p x)
owns_changed a b know p s x e k was now kept here o =
    owns_moved a b know p s x e k
    (λ q ne. not_owned a q (know q).epoch ((know q).own s) (a.place s) (a.last s) (a.stamp s) (o q s) (was q ne)) now
    kept here (λ q v _. o q v)

-- the last incarnations of two slots differ
pub lasts_differ : {start : Start} {a : Incarnations} → SlotsSound start a → (v s c d : ℕ) → v ≢ s → a.last s ≡ Some c →
    a.last v ≡ Some d → d ≢ c
lasts_differ {start} {a} snd v s c d ne e f q = ne (sym (snd.last_born v d f).1 ∙ ap a.slot q ∙ (snd.last_born s c e).1)
