-- Which keys were in the set when a held place showed a link that is checked in the same epoch.
-- The key of the place was, and a key between the place and what the unmarked link names wasn't.
use Rattle.std.proofs.Common.{◌≡◌, ℕ, ◌≤◌, true, false, max, [], Option, Some, None, refl, arith, sym, ap, subst, ◌∙◌}
use Rattle.std.proofs.Common.{inl, inr, ◌<◌}
use Rattle.std.specs.Prelude.{◌⊎◌}
use Rattle.std.proofs.lemmas.Bool.{cases_Bool}
use Rattle.vbr_machine.specs.Start.{Start}
use Rattle.vbr_words.specs.Places as places
use Rattle.vbr_words.specs.Words.{word_of, link_of}
use Rattle.vbr_words.specs.declared.link.Link.{Link}
use Rattle.vbr_words.specs.declared.place.At.{At}
use Rattle.vbr_words.specs.declared.place.At.TheVariants.{Head, Slot}
use Rattle.vbr_machine.specs.Opened.{opening_keys, opening_payloads, payload_kept}
use Rattle.vbr_machine.specs.History.{set_after, values_after}
use Rattle.vbr_machine.specs.Links.{marked}
use Rattle.vbr_machine.specs.Knowledge.{Know}
use Rattle.vbr_machine.specs.Machine.{World, word_at, found}
use Rattle.vbr_machine.specs.Machine as machine
use Rattle.vbr_machine.specs.Membership.{Knows, IsHeldPlace, KeyAt, StandsBehind, StandsBefore}
use Rattle.vbr_words.specs.Buckets.{bucket_of}
use Rattle.vbr_machine.specs.Acceptance.{Accepts}
use Rattle.vbr_machine.specs.declared.history.Op.{Op}
use Rattle.vbr_machine.specs.declared.event.Step.TheVariants.{ConfirmPresent}
use Rattle.vbr_machine.specs.Incarnations.{State, Unborn, InHand, GivenUp, Linked, Marked, Unlinked, Stamped}
use Rattle.vbr_machine.specs.Incarnations.{Incarnations}
use Rattle.vbr_machine.specs.Images.{birth_shown, slot_shown, link_to_next, link_in_state, link_shown_at}
use Rattle.vbr_machine.specs.Chronicles.{Before, AtHead, AtNode, IsOpen, BelongsBehind, BelongsBefore, next_of}
use Rattle.vbr_machine.specs.Sound.{IsInserted, IsListed, IsOrderedBefore, Sound, Tells, Grows}
use Rattle.vbr_machine.specs.Notes.{Notes}
use Rattle.vbr_machine.specs.Removals.{IsTakenOut, NoneMarked}
use Rattle.vbr_machine.specs.Agreement.{IsHeldIncarnation, IsHeldAt, IsHeldNext, IsGoodLink, IsPair, FitsNotes, Agrees}
use Rattle.vbr_machine.specs.declared.knowledge.Read.TheVariants.{LinkAt, KeyOf, ValueOf}
use Rattle.vbr_machine.proofs.chronicles.Slots.{late_inserted, listed_late, late_born}
use Rattle.vbr_machine.proofs.chronicles.Lists.{lower_rank, next_listed, no_key_between, next_has_key, up_to_next}
use Rattle.vbr_machine.proofs.reads.HeldReads.{still_last, stays_held, stays_next}
use Rattle.vbr_machine.proofs.reads.FoundReads.{link_among}
use Rattle.vbr_machine.proofs.chronicles.Growth.{grows_after}
use Rattle.vbr_machine.proofs.steps.LoadSteps.{link_read}
use Rattle.vbr_machine.proofs.reads.KnownReads.{good_link, one_held, slot_held, known_key, value_held}
use Rattle.vbr_machine.proofs.chronicles.Shown.{stands}

-- ---- a held place that shows an unmarked link

-- what a link with a version no greater than the epoch names is held, if it is listed
next_held : (a : Incarnations) (e holder : ℕ) (o : Option ℕ) (link : Link) →
    ((m : ℕ) → o ≡ Some m → IsListed (a.state m)) → link_to_next a holder o ≡ link → link.version ≤ e →
    IsHeldNext a e link.slot o
next_held a e holder o link l q v = let u : max holder (birth_shown a o) ≤ e = (rw (← q) at v) in rw (← q) (go o l u)
  where
    go : (o : Option ℕ) → ((m : ℕ) → o ≡ Some m → IsListed (a.state m)) → max holder (birth_shown a o) ≤ e →
        IsHeldNext a e (slot_shown a o) o
    go None l u = tt
    go (Some m) l u = record { slot = refl; birth = omega arith; late = listed_late (a.state m) e (l m refl) }

-- it is linked, and what follows it is held
pub held_open : {start : Start} {a : Incarnations} → Sound start a →
    (e : ℕ) (place : At) (of : Option ℕ) (link : Link) →
    IsHeldAt a e place of → link_shown_at a place ≡ link → link.mark ≡ false → link.version ≤ e →
    (n : Option ℕ) × IsPair a place of n × IsHeldNext a e link.slot n
held_open {start} {a} s e (Head b) None link h q m v =
    (a.first b, (refl, refl), next_held a e 0 (a.first b) link (λ i r. (s.lists.first_in b i r).0) q v)
held_open {start} {a} s e (Head b) (Some c) link h q m v = absurd h
held_open {start} {a} s e (Slot t) None link h q m v = absurd h
held_open {start} {a} s e (Slot t) (Some c) link h q m v = go (a.state c) refl
  where
    l : a.last t ≡ Some c
    l = still_last s e t c h (rw q m) (rw q v)

    shown : link_in_state a c (a.state c) ≡ link
    shown = rw l at q

    no : marked (link_to_next a (a.birth c) (a.next c)) ≡ link → ⊥
    no y = let z = ap (λ (i : Link). i.mark) y in cc

    go : (st : State) → a.state c ≡ st → (n : Option ℕ) × IsPair a (Slot t) (Some c) n × IsHeldNext a e link.slot n
    go Linked k = (
      a.next c,
      (c, refl, l, k, refl),
      next_held a e (a.birth c) (a.next c) link (λ i r. next_listed s c i r (rw k tt)) (rw k at shown) v,
    )
    go Unborn k = absurd (rw k at h.late)
    go (InHand p) k = absurd (rw k at h.late)
    go GivenUp k = absurd (rw k at h.late)
    go Marked k = absurd (no (rw k at shown))
    go (Unlinked p u) k = absurd (no (rw k at shown))
    go (Stamped u r) k = absurd (no (rw k at shown))

-- what stands at a place: a head, or this incarnation
abbrev pub before_of : At → Option ℕ → Before
before_of (Head b) of = AtHead b
before_of (Slot s) None = AtNode 0
before_of (Slot s) (Some c) = AtNode c

-- the first of a pair is open, and the second is its successor
pub pair_open : (a : Incarnations) (place : At) (of n : Option ℕ) → IsPair a place of n →
    IsOpen a (before_of place of) × (next_of a (before_of place of) ≡ n)
pair_open a (Head b) of n p = (tt, p.1)
pair_open a (Slot s) None n p = absurd (let q = p.1 in cc)
pair_open a (Slot s) (Some c) n p = let q : c ≡ p.0 = (let r = p.1 in cc) in (ap a.state q ∙ p.3, ap a.next q ∙ p.4)

-- what is held where a link names it is one, and was inserted
one_next : {start : Start} {a : Incarnations} → Sound start a → (e : ℕ) (v n o : Option ℕ) → IsHeldNext a e v n →
    IsHeldNext a e v o → n ≡ o
one_next s e None None None g h = refl
one_next s e None None (Some d) g h = absurd h
one_next s e None (Some c) o g h = absurd g
one_next s e (Some t) None o g h = absurd g
one_next s e (Some t) (Some c) None g h = absurd h
one_next s e (Some t) (Some c) (Some d) g h = ap Some (one_held s e t c d g h)

next_inserted : (a : Incarnations) (e : ℕ) (v : Option ℕ) (n : ℕ) → IsHeldNext a e v (Some n) → IsInserted (a.state n)
next_inserted a e None n h = absurd h
next_inserted a e (Some t) n h = late_inserted (a.state n) e h.late

-- ---- then and now

-- incarnations a then and b now: the known keys are those that the same incarnations had then
module _ {start : Start} {a b : Incarnations} {know : Know} {notes : Notes} (then : Sound start a) (grown : Grows a b)
    (now : Sound start b) (noted : FitsNotes b know notes) (low : know.epoch ≤ a.epoch) where
  -- a key that is known at a slot
  key_then : (s c key : ℕ) → IsHeldIncarnation a know.epoch s c → Knows know (KeyOf s key) → a.key c ≡ key
  key_then s c key h m = sym (grown.key c (late_inserted (a.state c) know.epoch h.late))
      ∙ known_key now noted s c key (stays_held then grown know.epoch s c low h) m

  -- and a value
  value_then : (s c value : ℕ) → IsHeldIncarnation a know.epoch s c → Knows know (ValueOf s value) → a.value c ≡ value
  value_then s c value h m =
      let held = stays_held then grown know.epoch s c low h in
      let x = value_held noted s value m in
      sym (grown.value c (late_inserted (a.state c) know.epoch h.late))
      ∙ ap b.value (one_held now know.epoch s c x.0 held x.1) ∙ x.2

  -- a key that stands behind a place
  pub behind_then : (place : At) (of : Option ℕ) (key : ℕ) → IsHeldAt a know.epoch place of →
      StandsBehind start know place key →
      BelongsBehind start a (before_of place of) key
  behind_then (Head b) of key h s = s
  behind_then (Slot t) None key h s = absurd h
  behind_then (Slot t) (Some c) key h s =
      let k = key_then t c s.0 h s.1 in (s.2 ∙ ap (bucket_of start.shape) (sym k), (let u = s.3 in omega arith))

  -- a key that stands before what a link names
  pub before_then : (v n : Option ℕ) (key : ℕ) → IsHeldNext a know.epoch v n → StandsBefore know key v →
      BelongsBefore a key n
  before_then None None key h s = tt
  before_then None (Some n) key h s = absurd h
  before_then (Some t) None key h s = tt
  before_then (Some t) (Some n) key h s = let k = key_then t n s.0 h s.1 in (let u = s.2 in omega arith)

  module _ (tells : Tells start a) (place : At) (of : Option ℕ) (link : Link) (held : IsHeldAt a know.epoch place of)
      (shown : link_shown_at a place ≡ link) (unmarked : link.mark ≡ false)
      (known : Knows know (LinkAt place link)) where
    opened : (n : Option ℕ) × IsPair a place of n × IsHeldNext a know.epoch link.slot n
    opened = held_open then know.epoch place of link held shown unmarked ((good_link noted place link known).2.version)

    -- the key of the place was there
    pub key_was_there : (key : ℕ) → KeyAt know place key → set_after (opening_keys start) a.calls key ≡ true
    key_was_there key k = go place of held (opened.1) k
      where
        go : (place : At) (of : Option ℕ) → IsHeldAt a know.epoch place of → IsPair a place of opened.0 →
            KeyAt know place key →
            set_after (opening_keys start) a.calls key ≡ true
        go (Head b) of h p k = absurd k
        go (Slot s) None h p k = absurd h
        go (Slot s) (Some c) h p k =
            let q = key_then s c key h k in rw (← q) (tells.there c (pair_open a (Slot s) (Some c) opened.0 p).0)

    -- where the place is a slot, its node was linked and is held there
    node_there : (s : ℕ) → place ≡ Slot s → (i : ℕ) × IsHeldIncarnation a know.epoch s i × (a.state i ≡ Linked)
    node_there s is = go place of is held opened.1
      where
        go : (place : At) (of : Option ℕ) → place ≡ Slot s → IsHeldAt a know.epoch place of →
            IsPair a place of opened.0 →
            (i : ℕ) × IsHeldIncarnation a know.epoch s i × (a.state i ≡ Linked)
        go (Head b) of e h p = absurd (cc)
        go (Slot t) None e h p = absurd h
        go (Slot t) (Some i) e h p =
            let same : t ≡ s = cc in
            let P : ℕ → Type 0 = λ t. IsHeldIncarnation a know.epoch t i in
            (i, subst P same h, (pair_open a (Slot t) (Some i) opened.0 p).0)

    -- and its value was the one that is known there
    pub value_was_there : (s key value : ℕ) → place ≡ Slot s → Knows know (KeyOf s key) → Knows know (ValueOf s value) →
        values_after (opening_payloads start) a.calls key ≡ payload_kept start (Some value)
    value_was_there s key value e k m =
        let x = node_there s e in
        ap (values_after (opening_payloads start) a.calls) (sym (key_then s x.0 key x.1 k)) ∙ tells.stored x.0 x.2
        ∙ ap (λ x. payload_kept start (Some x)) (value_then s x.0 value x.1 m)

    -- no node of a key between the place and what the link names was in a list
    none_was_listed : (key : ℕ) → StandsBehind start know place key → BelongsBefore a key opened.0 → (d : ℕ) →
        IsListed (a.state d) → a.key d ≡ key → ⊥
    none_was_listed key behind before =
        let p = pair_open a place of opened.0 opened.1 in
        no_key_between then (before_of place of) key p.0 (behind_then place of key held behind) (rw p.1 before)

    pub none_listed : (key c : ℕ) → StandsBehind start know place key → StandsBefore know key link.slot →
        IsListed (a.state c) → a.key c ≡ key → ⊥
    none_listed key c behind before = none_was_listed key behind (before_then link.slot opened.0 key opened.2 before) c

    -- a key between the place and what the link names wasn't
    pub no_key_was_there : (key : ℕ) → StandsBehind start know place key → StandsBefore know key link.slot →
        set_after (opening_keys start) a.calls key ≡ false
    no_key_was_there key behind before = go (cases_Bool (set_after (opening_keys start) a.calls key))
      where
        go : (set_after (opening_keys start) a.calls key ≡ true) ⊎
            (set_after (opening_keys start) a.calls key ≡ false) → set_after (opening_keys start) a.calls key ≡ false
        go (inr f) = f
        go (inl t) =
            let u = tells.only key t in
            absurd (none_was_listed key behind (before_then link.slot opened.0 key opened.2 before) u.0 (rw u.1 tt) u.2)

    -- where the key of the place is this, the node there is linked, and no marked node of the key was in a list but
    -- one that was replaced
    pub none_marked_here : (key : ℕ) → KeyAt know place key → NoneMarked a key
    none_marked_here key k = go place of held opened.1 k
      where
        go : (place : At) (of : Option ℕ) → IsHeldAt a know.epoch place of → IsPair a place of opened.0 →
            KeyAt know place key →
            NoneMarked a key
        go (Head b) of h p k d m e = absurd k
        go (Slot s) None h p k d m e = absurd h
        go (Slot s) (Some c) h p k d m e =
            let linked : a.state c ≡ Linked = (pair_open a (Slot s) (Some c) opened.0 p).0 in
            let is = key_then s c key h k in
            let x = next_has_key then c d linked m (e ∙ sym is) in
            (x.0, x.1, x.2 ∙ is)

    -- where the key lies between the place and what the link names, none was
    pub none_marked_between : (key : ℕ) → StandsBehind start know place key → StandsBefore know key link.slot →
        NoneMarked a key
    none_marked_between key behind before d m e =
        absurd (none_was_listed key behind (before_then link.slot opened.0 key opened.2 before) d (rw m tt) e)

    -- so was none of the key of a slot whose node was removed and not replaced, and whose known marked link names
    -- what the link names: that has a greater key
    pub none_marked_skipped : (s key : ℕ) (frozen : Link) → StandsBehind start know place key →
        Knows know (LinkAt (Slot s) frozen) → frozen.mark ≡ true → frozen.slot ≡ link.slot → Knows know (KeyOf s key) →
        IsTakenOut b know.epoch s → NoneMarked a key
    none_marked_skipped s key frozen behind k mark same j out d m e =
        let g = good_link noted (Slot s) frozen k in
        absurd (none_was_listed key behind (go g.0 g.1 g.2 opened.0 opened.2) d (rw m tt) e)
      where
        go : (c n : Option ℕ) → IsGoodLink b know.epoch (Slot s) frozen c n → (o : Option ℕ) →
            IsHeldNext a know.epoch link.slot o → BelongsBefore a key o
        go None n g o h = absurd g.place
        go (Some c) n g None h = tt
        go (Some c) n g (Some i) h =
            let x : IsHeldNext b know.epoch frozen.slot (Some i) =
            rw same (stays_next then grown know.epoch link.slot (Some i) low h) in
            let is : out.node ≡ c = one_held now know.epoch s out.node c out.held g.place in
            let up = out.above i
            (ap b.next is ∙ (g.frozen mark).1 ∙ one_next now know.epoch frozen.slot n (Some i) g.next x) in
            let key_here : b.key out.node ≡ key = known_key now noted s out.node key out.held j in
            let key_there : b.key i ≡ a.key i = grown.key i (next_inserted a know.epoch link.slot i h) in
            omega (arith, up, key_here, key_there)

    -- what a known marked link of a slot names stands behind the node of the slot: so where the link names the
    -- same, that node was in no list
    pub skipped_unlisted : (s key c : ℕ) (frozen : Link) → StandsBehind start know place key →
        Knows know (LinkAt (Slot s) frozen) → frozen.mark ≡ true → frozen.slot ≡ link.slot → Knows know (KeyOf s key) →
        IsHeldIncarnation b know.epoch s c → IsListed (a.state c) → ⊥
    skipped_unlisted s key c frozen behind k mark same j held_now listed =
        let g = good_link noted (Slot s) frozen k in go g.0 g.1 g.2 opened.0 opened.1 opened.2
      where
        low_c : c < a.count
        low_c = late_born then.slots c know.epoch (listed_late (a.state c) know.epoch listed)

        held_then : IsHeldIncarnation a know.epoch s c
        held_then = record {
          slot = sym (grown.slot c low_c) ∙ held_now.slot;
          birth = (let e = grown.birth c low_c in let u = held_now.birth in omega (arith, e, u));
          late = listed_late (a.state c) know.epoch listed;
        }

        inserted : IsInserted (a.state c)
        inserted = late_inserted (a.state c) 0 (listed_late (a.state c) 0 listed)

        not_both : (i n : ℕ) → IsOrderedBefore b.key b.rank c i → n ≡ i →
            (a.key n < a.key c) ⊎ ((a.key n ≡ a.key c) × (a.rank n ≤ a.rank c)) → b.key c ≡ a.key c →
            b.rank c ≡ a.rank c → b.key i ≡ a.key i → b.rank i ≡ a.rank i → ⊥
        not_both i n x e y k r l q = grind arith

        go : (d n : Option ℕ) → IsGoodLink b know.epoch (Slot s) frozen d n → (o : Option ℕ) → IsPair a place of o →
            IsHeldNext a know.epoch link.slot o → ⊥
        go None n g o pair h = g.place
        go (Some d) n g o pair h =
            let is : d ≡ c = one_held now know.epoch s d c g.place held_now in
            let p = pair_open a place of o pair in
            let there : BelongsBehind start a (before_of place of) (a.key c) =
            rw (key_then s c key held_then j) (behind_then place of key held behind) in
            let up = up_to_next then (before_of place of) c p.0 there listed in
            let x : IsHeldNext b know.epoch frozen.slot o =
            rw same (stays_next then grown know.epoch link.slot o low h) in
            let follows : b.next c ≡ Some up.0 =
            ap b.next (sym is) ∙ (g.frozen mark).1 ∙ one_next now know.epoch frozen.slot n o g.next x ∙ sym p.1
            ∙ up.1 in
            let P : Option ℕ → Type 0 = IsHeldNext a know.epoch link.slot in
            let there_too : IsInserted (a.state up.0) =
            next_inserted a know.epoch link.slot up.0 (subst P (sym p.1 ∙ up.1) h) in
            not_both up.0 up.0 (now.lists.ordered c up.0 follows).1 refl up.2 (grown.key c inserted)
            (grown.rank c inserted) (grown.key up.0 there_too) (grown.rank up.0 there_too)

    -- where the link names a node of a known key, no node of the key that was in a list stands ahead of that one
    pub named_first : (s key c : ℕ) → StandsBehind start know place key → link.slot ≡ Some s →
        Knows know (KeyOf s key) →
        IsListed (a.state c) → a.key c ≡ key → (i : ℕ) × IsHeldIncarnation b know.epoch s i × (b.rank i ≤ b.rank c)
    named_first s key c behind named j listed e = go opened.0 opened.1 opened.2
      where
        first : (i : ℕ) → a.key i ≡ key → (a.key i < a.key c) ⊎ ((a.key i ≡ a.key c) × (a.rank i ≤ a.rank c)) →
            b.rank i ≡ a.rank i → b.rank c ≡ a.rank c → b.rank i ≤ b.rank c
        first i k le x y = grind arith

        go : (o : Option ℕ) → IsPair a place of o → IsHeldNext a know.epoch link.slot o →
            (i : ℕ) × IsHeldIncarnation b know.epoch s i × (b.rank i ≤ b.rank c)
        go o pair h =
            let p = pair_open a place of o pair in
            let there : BelongsBehind start a (before_of place of) (a.key c) = rw e
            (behind_then place of key held behind) in
            let up = up_to_next then (before_of place of) c p.0 there listed in
            let P : Option ℕ → Type 0 = IsHeldNext a know.epoch link.slot in
            let Q : Option ℕ → Type 0 = λ v. IsHeldNext a know.epoch v (Some up.0) in
            let here : IsHeldIncarnation a know.epoch s up.0 = subst Q named (subst P (sym p.1 ∙ up.1) h) in (
              up.0,
              stays_held then grown know.epoch s up.0 low here,
              first up.0 (key_then s up.0 key here j) up.2
                  (grown.rank up.0 (late_inserted (a.state up.0) know.epoch here.late))
                  (grown.rank c (late_inserted (a.state c) 0 (listed_late (a.state c) 0 listed))),
            )

    -- and where the place is a slot of the key, each marked node of the key stands ahead of the one there
    pub marked_ahead : (s key c : ℕ) → place ≡ Slot s → Knows know (KeyOf s key) → a.state c ≡ Marked → a.key c ≡ key →
        (i : ℕ) × IsHeldIncarnation b know.epoch s i × (b.rank c < b.rank i)
    marked_ahead s key c is j m e =
        let x = node_there s is in
        let listed : IsListed (a.state c) = rw m tt in (
          x.0,
          stays_held then grown know.epoch s x.0 low x.1,
          ahead x.0 x.2 (lower_rank then x.0 c x.2 listed (key_then s x.0 key x.1 j ∙ sym e))
              (grown.rank x.0 (late_inserted (a.state x.0) know.epoch x.1.late))
              (grown.rank c (late_inserted (a.state c) 0 (listed_late (a.state c) 0 listed))),
        )
      where
        ahead : (i : ℕ) → a.state i ≡ Linked → (c ≡ i) ⊎ (a.rank c < a.rank i) → b.rank i ≡ a.rank i →
            b.rank c ≡ a.rank c → b.rank c < b.rank i
        ahead i l (inl same) x y = absurd (let z : Marked ≡ Linked = sym m ∙ ap a.state same ∙ l in cc)
        ahead i l (inr less) x y = omega (arith, less, x, y)

-- a held place has an incarnation that is held there, if it is a slot
pub place_held : {a : Incarnations} {know : Know} {notes : Notes} → FitsNotes a know notes → (place : At) →
    IsHeldPlace know place → (of : Option ℕ) × IsHeldAt a know.epoch place of
place_held k (Head b) h = (None, tt)
place_held k (Slot s) h = let x = slot_held k s h in (Some x.0, x.1)

-- ---- in a world then and a world now

-- the premises: the worlds agree with their incarnations; then the pass held the place, which showed the unmarked
-- link; now the link is known there, and the pass has read no other epoch since
module _ {start : Start} {v w : World} {a b : Incarnations} {early late : ℕ → Notes} (then : Agrees start v a early)
    (now : Agrees start w b late) (grown : Grows a b) (p : ℕ) (place : At) (link : Link)
    (epoch : (v.know p).epoch ≡ (w.know p).epoch) (held : IsHeldPlace (v.know p) place)
    (shown : machine.link_at v place ≡ link) (known : Knows (w.know p) (LinkAt place link))
    (unmarked : link.mark ≡ false) where
  there : (of : Option ℕ) × IsHeldAt a (w.know p).epoch place of
  there = rw (← epoch) (place_held (then.knows p) place held)

  low : (w.know p).epoch ≤ a.epoch
  low = rw (← epoch) ((then.knows p).epoch)

  shows : link_shown_at a place ≡ link
  shows = sym (stands v a place then.image) ∙ shown

  -- a key that is known at the place now was in the set then
  pub present_at_load : (key : ℕ) → KeyAt (w.know p) place key → set_after (opening_keys start) v.calls key ≡ true
  present_at_load key k =
      rw then.calls
      (key_was_there then.sound grown now.sound (now.knows p) low then.tells place there.0 link there.1 shows unmarked
      known key k)

  -- and a value that is known there was its value
  pub value_at_load : (s key value : ℕ) → place ≡ Slot s → Knows (w.know p) (KeyOf s key) →
      Knows (w.know p) (ValueOf s value) →
      values_after (opening_payloads start) v.calls key ≡ payload_kept start (Some value)
  value_at_load s key value e k m =
      rw then.calls
      (value_was_there then.sound grown now.sound (now.knows p) low then.tells place there.0 link there.1 shows unmarked
      known s key value e k m)

  -- a key that stands behind the place and before what the link names, by what is known now, wasn't in the set then
  pub absent_at_load : (key : ℕ) → StandsBehind start (w.know p) place key → StandsBefore (w.know p) key link.slot →
      set_after (opening_keys start) v.calls key ≡ false
  absent_at_load key i j =
      rw then.calls
      (no_key_was_there then.sound grown now.sound (now.knows p) low then.tells place there.0 link there.1 shows
      unmarked
      known key i j)

  -- no marked node of such a key was in a list then but one that was replaced
  pub none_marked_here_then : (key : ℕ) → KeyAt (w.know p) place key → NoneMarked a key
  none_marked_here_then key k =
      none_marked_here then.sound grown now.sound (now.knows p) low then.tells place there.0 link there.1 shows unmarked
      known key k

  pub none_marked_between_then : (key : ℕ) → StandsBehind start (w.know p) place key →
      StandsBefore (w.know p) key link.slot → NoneMarked a key
  none_marked_between_then key i j =
      none_marked_between then.sound grown now.sound (now.knows p) low then.tells place there.0 link there.1 shows
      unmarked
      known key i j

  -- nor one of the key of a slot whose node was removed and not replaced, and whose known marked link names what
  -- the link names
  pub none_marked_skipped_then : (s key : ℕ) (frozen : Link) → StandsBehind start (w.know p) place key →
      Knows (w.know p) (LinkAt (Slot s) frozen) → frozen.mark ≡ true → frozen.slot ≡ link.slot →
      Knows (w.know p) (KeyOf s key) → IsTakenOut b (w.know p).epoch s → NoneMarked a key
  none_marked_skipped_then s key frozen i k m same j out =
      none_marked_skipped then.sound grown now.sound (now.knows p) low then.tells place there.0 link there.1 shows
      unmarked
      known s key frozen i k m same j out

  -- nor was the node of a slot that stands behind the place, and whose known marked link names what the link names
  pub skipped_unlisted_then : (s key c : ℕ) (frozen : Link) → StandsBehind start (w.know p) place key →
      Knows (w.know p) (LinkAt (Slot s) frozen) → frozen.mark ≡ true → frozen.slot ≡ link.slot →
      Knows (w.know p) (KeyOf s key) → IsHeldIncarnation b (w.know p).epoch s c → IsListed (a.state c) → ⊥
  skipped_unlisted_then s key c frozen i k m same j h l =
      skipped_unlisted then.sound grown now.sound (now.knows p) low then.tells place there.0 link there.1 shows unmarked
      known s key c frozen i k m same j h l

  -- nor was one of a key between the place and what the link names
  pub none_listed_then : (key c : ℕ) → StandsBehind start (w.know p) place key → StandsBefore (w.know p) key link.slot →
      IsListed (a.state c) → a.key c ≡ key → ⊥
  none_listed_then key c i j l e =
      none_listed then.sound grown now.sound (now.knows p) low then.tells place there.0 link there.1 shows unmarked
      known
      key c i j l e

  pub named_first_then : (s key c : ℕ) → StandsBehind start (w.know p) place key → link.slot ≡ Some s →
      Knows (w.know p) (KeyOf s key) → IsListed (a.state c) → a.key c ≡ key →
      (i : ℕ) × IsHeldIncarnation b (w.know p).epoch s i × (b.rank i ≤ b.rank c)
  named_first_then s key c i q j l e =
      named_first then.sound grown now.sound (now.knows p) low then.tells place there.0 link there.1 shows unmarked
      known s
      key c i q j l e

  pub marked_ahead_then : (s key c : ℕ) → place ≡ Slot s → Knows (w.know p) (KeyOf s key) → a.state c ≡ Marked →
      a.key c ≡ key → (i : ℕ) × IsHeldIncarnation b (w.know p).epoch s i × (b.rank c < b.rank i)
  marked_ahead_then s key c q j m e =
      marked_ahead then.sound grown now.sound (now.knows p) low then.tells place there.0 link there.1 shows unmarked
      known
      s key c q j m e

-- ---- in one world

-- the premises: the world agrees with its incarnations, and a known unmarked link stands at its place
module _ {start : Start} {w : World} {a : Incarnations} {notes : ℕ → Notes} (now : Agrees start w a notes) (p : ℕ)
    (place : At) (link : Link) (known : Knows (w.know p) (LinkAt place link)) (unmarked : link.mark ≡ false)
    (shown : machine.link_at w place ≡ link) where
  here : (of names : Option ℕ) × IsGoodLink a (w.know p).epoch place link of names
  here = good_link (now.knows p) place link known

  still : Grows a a
  still = grows_after start (opening_keys start) a [] now.sound tt

  -- a key that is known at the place is in the set
  pub present_now : (key : ℕ) → KeyAt (w.know p) place key → set_after (opening_keys start) w.calls key ≡ true
  present_now key k =
      rw now.calls
      (key_was_there now.sound still now.sound (now.knows p) (now.knows p).epoch now.tells place here.0 link
      here.2.place
      (sym (stands w a place now.image) ∙ shown) unmarked known key k)

-- ---- confirming loads

-- the word at the place of a link
pub found_at : (start : Start) (w : World) (place : At) →
    word_at start w (places.place_of place) ≡ word_of (machine.link_at w place)
found_at start w (Head b) = refl
found_at start w (Slot s) = refl

-- the link that stands at a place is that of the word that is found there
pub link_found_at : {start : Start} {w : World} {a : Incarnations} {notes : ℕ → Notes} → Agrees start w a notes →
    (place : At) (word : ℕ) → word_at start w (places.place_of place) ≡ word → machine.link_at w place ≡ link_of word
link_found_at {start} {w} {a} g place word q =
    stands w a place g.image ∙ sym (link_read g place) ∙ ap link_of (sym (found_at start w place) ∙ q)

-- where a confirming load of a slot finds the word that it expects, each key that is known at the slot is in the set
pub confirmed_present : {start : Start} {w : World} {a : Incarnations} {notes : ℕ → Notes} → Agrees start w a notes →
    (p : ℕ) (op : Op) (s expected key : ℕ) → Accepts start (w.know p) (ConfirmPresent op s expected) →
    found start w (ConfirmPresent op s expected) ≡ expected → Knows (w.know p) (KeyOf s key) →
    set_after (opening_keys start) w.calls key ≡ true
confirmed_present {start} {w} g p op s expected key ok q k =
    present_now g p (Slot s) (link_of expected)
    (record { among = link_among (w.know p).checked (Slot s) (link_of expected) ok.held.0 }) ok.in_range.0
    (link_found_at g (Slot s) expected q) key k
