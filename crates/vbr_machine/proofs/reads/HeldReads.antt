-- A checked link that is found again stands for the same pair, and good reads stay good.
use Rattle.std.proofs.Common.{◌≡◌, ℕ, ◌<◌, ◌≤◌, false, max, List, [], ◌∷◌, Option, Some, None, refl, arith, sym, subst}
use Rattle.std.proofs.Common.{ap, ◌∙◌, inl, inr}
use Rattle.std.specs.Prelude.{◌⊎◌}
use Rattle.std.specs.List.{AllByRecursion}
use Rattle.std.proofs.lemmas.Bool.{cases_order}
use Rattle.vbr_machine.specs.Start.{Start}
use Rattle.vbr_words.specs.declared.link.Link.{Link}
use Rattle.vbr_words.specs.declared.place.At.{At}
use Rattle.vbr_words.specs.declared.place.At.TheVariants.{Head, Slot}
use Rattle.vbr_machine.specs.Links.{marked}
use Rattle.vbr_machine.specs.Incarnations.{State, Unborn, InHand, GivenUp, Linked, Marked, Unlinked, Stamped}
use Rattle.vbr_machine.specs.Incarnations.{Incarnations, IsLate}
use Rattle.vbr_machine.specs.Images.{birth_shown, slot_shown, link_to_next, link_in_state, link_shown_at}
use Rattle.vbr_machine.specs.Sound.{IsListed, IsPassed, TimesFit, StampFits, Sound, Grows}
use Rattle.vbr_machine.specs.Notes.{Note}
use Rattle.vbr_machine.specs.Agreement.{IsHeldIncarnation, IsHeldAt, IsHeldNext, IsFrozen, IsGoodLink, IsPair, IsLastOf}
use Rattle.vbr_machine.specs.Agreement.{IsGoodRead, IsGood}
use Rattle.vbr_machine.specs.declared.knowledge.Read.{Read}
use Rattle.vbr_machine.specs.declared.knowledge.Read.TheVariants.{LinkAt, BirthOf, KeyOf, ValueOf}
use Rattle.vbr_machine.proofs.chronicles.Slots.{late_inserted, late_born, one_late, late_last, listed_late, listed_last}
use Rattle.vbr_machine.proofs.chronicles.Slots.{shows}
use Rattle.vbr_machine.proofs.chronicles.Lists.{next_listed}

-- ---- a link that is found again

-- a link by which m is named, with a version no greater than the epoch, names the one that is held
same_next : {start : Start} {a : Incarnations} → Sound start a → (e holder : ℕ) (o n : Option ℕ) (link : Link) →
    ((m : ℕ) → o ≡ Some m → IsListed (a.state m)) → link_to_next a holder o ≡ link → link.version ≤ e →
    IsHeldNext a e link.slot n → o ≡ n
same_next {start} {a} s e holder o n link l q v h =
    go o n l (rw (← q) at h) (let u : max holder (birth_shown a o) ≤ e = (rw (← q) at v) in u)
  where
    go : (o n : Option ℕ) → ((m : ℕ) → o ≡ Some m → IsListed (a.state m)) → IsHeldNext a e (slot_shown a o) n →
        max holder (birth_shown a o) ≤ e → o ≡ n
    go None None l h v = refl
    go None (Some k) l h v = absurd h
    go (Some m) None l h v = absurd h
    go (Some m) (Some k) l h v =
        ap Some (one_late s.slots m k e (sym h.slot) (listed_late (a.state m) e (l m refl)) h.late (omega arith)
        h.birth)

-- the last incarnation of the slot is the one held, where the slot shows an unmarked link with a version no greater
-- than the epoch
pub still_last : {start : Start} {a : Incarnations} → Sound start a → (e s c : ℕ) → IsHeldIncarnation a e s c →
    (link_shown_at a (Slot s)).mark ≡ false → (link_shown_at a (Slot s)).version ≤ e → a.last s ≡ Some c
still_last {start} {a} s e v c h m le = go (s.slots.has_last c (late_born s.slots c e h.late))
  where
    no : (st : State) (birth epoch b stamp version : ℕ) → IsLate st e → TimesFit st birth epoch → IsPassed st b →
        StampFits st birth stamp → stamp < version → version ≤ e → ⊥
    no st birth epoch b stamp version l t p f lt le = grind arith

    go : ((l : ℕ) × (a.last (a.slot c) ≡ Some l) × (c ≤ l)) → a.last v ≡ Some c
    go (l, el, cl) = go2 (cases_order c l)
      where
        e2 : a.last v ≡ Some l
        e2 = rw h.slot at el

        b : (l < a.count) × (a.slot l ≡ a.slot c)
        b = s.slots.last_born (a.slot c) l el

        above : a.stamp v < (link_shown_at a (Slot v)).version
        above = let u = shows s.slots v (a.last v) refl in grind arith

        fits : StampFits (a.state c) (a.birth c) (a.stamp v)
        fits =
            let P : ℕ → Type 0 = λ w. StampFits (a.state c) (a.birth c) (a.stamp w) in subst P h.slot (s.slots.stamps c)

        go2 : (c ≡ l) ⊎ ((c < l) ⊎ (l < c)) → a.last v ≡ Some c
        go2 (inl q) = e2 ∙ ap Some (sym q)
        go2 (inr (inl lt)) =
            absurd (no (a.state c) (a.birth c) a.epoch (a.birth l) (a.stamp v) (link_shown_at a (Slot v)).version h.late
            (s.slots.times c) (s.slots.passed c l lt b.0 (sym b.1)) fits above le)
        go2 (inr (inr lt)) = absurd (omega arith)

-- a checked unmarked link that stands there again stands for the pair that it was checked with
pub same_pair : {start : Start} {a : Incarnations} → Sound start a →
    (e : ℕ) (place : At) (link : Link) (of names : Option ℕ) → IsGoodLink a e place link of names → link.mark ≡ false →
    link_shown_at a place ≡ link → IsPair a place of names
same_pair {start} {a} s e (Head b) link None n g m q =
    (refl, same_next s e 0 (a.first b) n link (λ k r. (s.lists.first_in b k r).0) q g.version g.next)
same_pair {start} {a} s e (Head b) link (Some c) n g m q = absurd g.place
same_pair {start} {a} s e (Slot v) link None n g m q = absurd g.place
same_pair {start} {a} s e (Slot v) link (Some c) n g m q = go (a.state c) refl
  where
    l : a.last v ≡ Some c
    l = still_last s e v c g.place (rw q m) (rw q g.version)

    shown : link_in_state a c (a.state c) ≡ link
    shown = rw l at q

    no : marked (link_to_next a (a.birth c) (a.next c)) ≡ link → ⊥
    no y = let z = ap (λ (i : Link). i.mark) y in cc

    go : (st : State) → a.state c ≡ st → IsPair a (Slot v) (Some c) n
    go Linked k = (
      c,
      refl,
      l,
      k,
      same_next s e (a.birth c) (a.next c) n link (λ i r. next_listed s c i r (rw k tt)) (rw k at shown) g.version
          g.next,
    )
    go Unborn k = absurd (rw k at g.place.late)
    go (InHand p) k = absurd (rw k at g.place.late)
    go GivenUp k = absurd (rw k at g.place.late)
    go Marked k = absurd (no (rw k at shown))
    go (Unlinked p u) k = absurd (no (rw k at shown))
    go (Stamped u r) k = absurd (no (rw k at shown))

-- the second of a pair is the last of its slot
pub pair_last : {start : Start} {a : Incarnations} → Sound start a → (place : At) (of names : Option ℕ) →
    IsPair a place of names → IsLastOf a names
pair_last s place of None p = tt
pair_last s (Head b) of (Some n) p = listed_last s.slots n (s.lists.first_in b n p.1).0
pair_last s (Slot v) of (Some n) p = listed_last s.slots n (next_listed s p.0 n p.4 (rw p.3 tt))

-- ---- good reads stay good

pub stays_held : {start : Start} {a b : Incarnations} → Sound start a → Grows a b → (e s c : ℕ) → e ≤ a.epoch →
    IsHeldIncarnation a e s c → IsHeldIncarnation b e s c
stays_held s g e v c le h =
    let lt = late_born s.slots c e h.late in
    record { slot = g.slot c lt ∙ h.slot; birth = rw (g.birth c lt) h.birth; late = g.late c e le h.late }

pub stays_at : {start : Start} {a b : Incarnations} → Sound start a → Grows a b → (e : ℕ) (place : At) (of : Option ℕ) →
    e ≤ a.epoch → IsHeldAt a e place of → IsHeldAt b e place of
stays_at s g e (Head v) None le h = tt
stays_at s g e (Head v) (Some c) le h = absurd h
stays_at s g e (Slot v) None le h = absurd h
stays_at s g e (Slot v) (Some c) le h = stays_held s g e v c le h

pub stays_next : {start : Start} {a b : Incarnations} → Sound start a → Grows a b → (e : ℕ) (v n : Option ℕ) →
    e ≤ a.epoch → IsHeldNext a e v n → IsHeldNext b e v n
stays_next s g e None None le h = h
stays_next s g e None (Some n) le h = absurd h
stays_next s g e (Some v) None le h = absurd h
stays_next s g e (Some v) (Some n) le h = stays_held s g e v n le h

stays_frozen : {a b : Incarnations} → Grows a b → (of names : Option ℕ) → IsFrozen a of names → IsFrozen b of names
stays_frozen g None names f = absurd f
stays_frozen g (Some c) names f = let y = g.removed c f.0 in (y.0, y.1 ∙ f.1)

pub stays_good_link : {start : Start} {a b : Incarnations} → Sound start a → Grows a b → (e : ℕ) → e ≤ a.epoch →
    (place : At) (link : Link) (of names : Option ℕ) → IsGoodLink a e place link of names →
    IsGoodLink b e place link of names
stays_good_link s g e le place link of names h =
    record {
      version = h.version;
      place = stays_at s g e place of le h.place;
      next = stays_next s g e link.slot names le h.next;
      frozen = λ m. stays_frozen g of names (h.frozen m);
    }

stays_good_read : {start : Start} {a b : Incarnations} → Sound start a → Grows a b → (e : ℕ) → e ≤ a.epoch →
    (read : Read) (of names : Option ℕ) → IsGoodRead a e read of names → IsGoodRead b e read of names
stays_good_read s g e le (LinkAt place link) of names h = stays_good_link s g e le place link of names h
stays_good_read s g e le (BirthOf v b) None names h = absurd h
stays_good_read s g e le (KeyOf v b) None names h = absurd h
stays_good_read s g e le (ValueOf v b) None names h = absurd h
stays_good_read s g e le (BirthOf v b) (Some c) names h =
    (stays_held s g e v c le h.0, g.birth c (late_born s.slots c e h.0.late) ∙ h.1)
stays_good_read {start} {a} s g e le (KeyOf v b) (Some c) names h =
    (stays_held s g e v c le h.0, g.key c (late_inserted (a.state c) e h.0.late) ∙ h.1)
stays_good_read {start} {a} s g e le (ValueOf v b) (Some c) names h =
    (stays_held s g e v c le h.0, g.value c (late_inserted (a.state c) e h.0.late) ∙ h.1)

-- good notes stay good as the chronicle goes on
pub stays_good : {start : Start} {a b : Incarnations} → Sound start a → Grows a b → (e : ℕ) → e ≤ a.epoch →
    (notes : List Note) → AllByRecursion (IsGood a e) notes → AllByRecursion (IsGood b e) notes
stays_good s g e le [] h = tt
stays_good s g e le (note ∷ notes) h =
    (stays_good_read s g e le note.read note.of note.names h.0, stays_good s g e le notes h.1)

-- ---- a load where the epoch is that of the pass

pub held_last : {start : Start} {a : Incarnations} → Sound start a → (v c : ℕ) → IsHeldIncarnation a a.epoch v c →
    a.last v ≡ Some c
held_last {start} {a} s v c h = rw h.slot at (late_last s.slots c h.late)

held_next : {start : Start} {a : Incarnations} → Sound start a → (n : Option ℕ) →
    ((m : ℕ) → n ≡ Some m → IsLate (a.state m) a.epoch) → IsHeldNext a a.epoch (slot_shown a n) n
held_next s None l = tt
held_next {start} {a} s (Some m) l =
    let k = l m refl in record { slot = refl; birth = s.slots.born m (late_born s.slots m a.epoch k); late = k }

birth_below : {start : Start} {a : Incarnations} → Sound start a → (e : ℕ) (n : Option ℕ) →
    ((m : ℕ) → n ≡ Some m → IsLate (a.state m) e) → birth_shown a n ≤ a.epoch
birth_below s e None l = omega arith
birth_below s e (Some m) l = s.slots.born m (late_born s.slots m e (l m refl))

pub load_head : {start : Start} {a : Incarnations} → Sound start a → (b : ℕ) →
    IsGoodLink a a.epoch (Head b) (link_shown_at a (Head b)) None (a.first b)
load_head {start} {a} s b =
    let l = λ (m : ℕ) (q : a.first b ≡ Some m). listed_late (a.state m) a.epoch (s.lists.first_in b m q).0 in
    record {
      version = let u = birth_below s a.epoch (a.first b) l in omega arith;
      place = tt;
      next = held_next s (a.first b) l;
      frozen = λ m. cc;
    }

pub load_slot : {start : Start} {a : Incarnations} → Sound start a → (v c : ℕ) → IsHeldIncarnation a a.epoch v c →
    IsGoodLink a a.epoch (Slot v) (link_shown_at a (Slot v)) (Some c) (a.next c)
load_slot {start} {a} s v c h = rw (held_last s v c h) (go (a.state c) refl)
  where
    l : (m : ℕ) → a.next c ≡ Some m → IsLate (a.state m) a.epoch
    l m q = s.lists.handed c m a.epoch q h.late

    n : IsHeldNext a a.epoch (slot_shown a (a.next c)) (a.next c)
    n = held_next s (a.next c) l

    ver : max (a.birth c) (birth_shown a (a.next c)) ≤ a.epoch
    ver = let u = birth_below s a.epoch (a.next c) l in let w = h.birth in omega arith

    go : (st : State) → a.state c ≡ st →
        IsGoodLink a a.epoch (Slot v) (link_in_state a c (a.state c)) (Some c) (a.next c)
    go Linked k = rw k (record { version = ver; place = h; next = n; frozen = λ m. absurd (cc) })
    go Unborn k = absurd (rw k at h.late)
    go (InHand p) k = absurd (rw k at h.late)
    go GivenUp k = absurd (rw k at h.late)
    go Marked k = rw k (record { version = ver; place = h; next = n; frozen = λ m. (rw k tt, refl) })
    go (Unlinked p u) k = rw k (record { version = ver; place = h; next = n; frozen = λ m. (rw k tt, refl) })
    go (Stamped u r) k = rw k (record { version = ver; place = h; next = n; frozen = λ m. (rw k tt, refl) })
