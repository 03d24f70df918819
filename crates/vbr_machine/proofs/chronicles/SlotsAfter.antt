-- Each allowed event keeps what holds of the slots, clause by clause.
use Rattle.std.proofs.Common.{◌≡◌, ◌≢◌, ℕ, ◌+◌, ◌<◌, ◌≤◌, Some, None, refl, arith, sym, subst, ◌∙◌, inl, inr}
use Rattle.std.specs.Prelude.{◌⊎◌}
use Rattle.std.proofs.lemmas.Bool.Decides.{nat_tests}
use Rattle.std.proofs.lemmas.Bool.{cases_eq, cases_order, cases_lt}
use Rattle.vbr_machine.specs.Start.{Start}
use Rattle.vbr_machine.specs.Put.{put}
use Rattle.vbr_machine.specs.Keys.{Keys}
use Rattle.vbr_machine.specs.Incarnations.{State, Unborn, InHand, Stamped, Incarnations}
use Rattle.vbr_machine.specs.Chronicles.{Happening, Advances, Gains, Raises, GivesUp, Bears, Keyed, Aims, Inserts}
use Rattle.vbr_machine.specs.Chronicles.{Removes, Replaces, Unlinks, Stamps, MayBeBornIn, MayStamp, unlinked_at}
use Rattle.vbr_machine.specs.Chronicles.{Allowed, becomes}
use Rattle.vbr_machine.specs.Sound.{IsPassed, TimesFit, StampFits, LinkFits, PlaceFits, IsUnused, SlotsSound}
use Rattle.vbr_machine.specs.declared.knowledge.SlotPlace.{SlotPlace}
use Rattle.vbr_machine.proofs.chronicles.Slots.{shows, live_last, others_passed, IsLive}

unlinked_live : (st : State) (pass stamp epoch : ℕ) → MayStamp st pass stamp epoch → IsLive st
unlinked_live st pass stamp epoch h = grind arith

stamps_more : (start : Start) (a : Incarnations) (pass c r : ℕ) → SlotsSound start a →
    MayStamp (a.state c) pass r a.epoch → (i : ℕ) → StampFits (a.state i) (a.birth i) (a.stamp (a.slot i)) →
    StampFits ((becomes start a pass (Stamps c r)).state i) (a.birth i)
    ((becomes start a pass (Stamps c r)).stamp (a.slot i))
stamps_more start a pass c r s h i u =
    let w = live_last s c (unlinked_live (a.state c) pass r a.epoch h) in
    plain a.state i c pass r a.epoch (a.birth i) (a.birth c) a.slot a.stamp u (s.stamps c) (s.times c) h
    (cases_lt i a.count)
    (λ lt q ne. others_passed s c i w.1 lt q ne) (s.unborn i)
  where
    plain : (state : ℕ → State) (i c pass r e bi bc : ℕ) (slot stamp : ℕ → ℕ) →
        StampFits (state i) bi (stamp (slot i)) → StampFits (state c) bc (stamp (slot c)) → TimesFit (state c) bc e →
        MayStamp (state c) pass r e → (i < a.count) ⊎ (a.count ≤ i) →
        (i < a.count → slot i ≡ slot c → i ≢ c → IsPassed (state i) bc) → (a.count ≤ i → state i ≡ Unborn) →
        StampFits (put state c (Stamped (unlinked_at (state c)) r) i) bi (put stamp (slot c) r (slot i))
    plain state i c pass r e bi bc slot stamp u v t h lt o z = grind (arith, nat_tests)

last_more : (start : Start) (a : Incarnations) (pass v b : ℕ) → SlotsSound start a → (i : ℕ) → i < a.count + 1 →
    (l : ℕ) × ((becomes start a pass (Bears v b)).last ((becomes start a pass (Bears v b)).slot i) ≡ Some l) × (i ≤ l)
last_more start a pass v b s i lt = go (cases_order i a.count)
  where
    old : i < a.count → (a.slot i ≡ v) ⊎ (a.slot i ≢ v) →
        (l : ℕ) × ((becomes start a pass (Bears v b)).last ((becomes start a pass (Bears v b)).slot i) ≡ Some l) ×
        (i ≤ l)
    old h (inl e) = (a.count, grind (arith, nat_tests), omega arith)
    old h (inr ne) = let u = s.has_last i h in (u.0, grind (arith, nat_tests), u.2)

    go : (i ≡ a.count) ⊎ ((i < a.count) ⊎ (a.count < i)) →
        (l : ℕ) × ((becomes start a pass (Bears v b)).last ((becomes start a pass (Bears v b)).slot i) ≡ Some l) ×
        (i ≤ l)
    go (inl e) = (a.count, grind (arith, nat_tests), omega arith)
    go (inr (inl h)) = old h (cases_eq (a.slot i) v)
    go (inr (inr h)) = absurd (omega arith)

-- what is in the slot now is passed by what is born
all_passed : (start : Start) (a : Incarnations) (pass v b : ℕ) → SlotsSound start a → MayBeBornIn a pass v (a.place v) →
    a.stamp v < b → (i : ℕ) → i < a.count → a.slot i ≡ v → IsPassed (a.state i) b
all_passed start a pass v b s m lt i li q = go (s.has_last i li)
  where
    bear : (pl : SlotPlace) (l : ℕ) → MayBeBornIn a pass v pl → a.last v ≡ Some l →
        StampFits (a.state l) (a.birth l) (a.stamp v) → IsPassed (a.state l) b
    bear pl l m e f = grind arith

    past : (st : State) (birth stamp d : ℕ) → IsPassed st d → StampFits st birth stamp → stamp < b → IsPassed st b
    past st birth stamp d p f h = grind arith

    go : ((l : ℕ) × (a.last (a.slot i) ≡ Some l) × (i ≤ l)) → IsPassed (a.state i) b
    go (l, e, le) = go2 (cases_order i l)
      where
        e2 : a.last v ≡ Some l
        e2 = rw q at e

        fits : (j : ℕ) → a.slot j ≡ v → StampFits (a.state j) (a.birth j) (a.stamp v)
        fits j ej = let P : ℕ → Type 0 = λ w. StampFits (a.state j) (a.birth j) (a.stamp w) in subst P ej (s.stamps j)

        bl : (l < a.count) × (a.slot l ≡ v)
        bl = s.last_born v l e2

        go2 : (i ≡ l) ⊎ ((i < l) ⊎ (l < i)) → IsPassed (a.state i) b
        go2 (inl h) = rw h (bear (a.place v) l m e2 (fits l bl.1))
        go2 (inr (inl h)) =
            past (a.state i) (a.birth i) (a.stamp v) (a.birth l) (s.passed i l h bl.0 (q ∙ sym bl.1)) (fits i q) lt
        go2 (inr (inr h)) = absurd (omega arith)

passed_more : (start : Start) (keys : Keys) (a : Incarnations) (pass v b : ℕ) → SlotsSound start a →
    Allowed start keys a pass (Bears v b) → (i d : ℕ) → i < d → d < a.count + 1 →
    (becomes start a pass (Bears v b)).slot i ≡ (becomes start a pass (Bears v b)).slot d →
    (d < a.count → a.slot i ≡ a.slot d → IsPassed (a.state i) (a.birth d)) →
    IsPassed ((becomes start a pass (Bears v b)).state i) ((becomes start a pass (Bears v b)).birth d)
passed_more start keys a pass v b s h i d lt bd q u =
    let w = all_passed start a pass v b s h.0 h.1 i in plain a.slot a.birth a.state a.count i d lt bd q u w
  where
    plain : (slot birth : ℕ → ℕ) (state : ℕ → State) (n i d : ℕ) → i < d → d < n + 1 → put slot n v i ≡ put slot n v d →
        (d < n → slot i ≡ slot d → IsPassed (state i) (birth d)) → (i < n → slot i ≡ v → IsPassed (state i) b) →
        IsPassed (put state n (InHand pass) i) (put birth n b d)
    plain slot birth state n i d lt bd q u w = grind (arith, nat_tests)

module _ (start : Start) (keys : Keys) (a : Incarnations) (pass : ℕ) (s : SlotsSound start a) where
  -- the incarnations after an event
  abbrev after : Happening → Incarnations
  after what = becomes start a pass what

  -- the event is allowed
  abbrev May : Happening → Type 0
  May what = Allowed start keys a pass what

  -- the last incarnation of a slot was born in it
  last_born_after : (what : Happening) → May what → (v c : ℕ) → (after what).last v ≡ Some c →
      (c < (after what).count) × ((after what).slot c ≡ v)
  last_born_after (Bears u b) h v c q = let x = s.last_born v c in grind (arith, nat_tests)
  last_born_after _ h v c q = s.last_born v c q

  -- and none in it was born later
  has_last_after : (what : Happening) → May what → (i : ℕ) → i < (after what).count →
      (l : ℕ) × ((after what).last ((after what).slot i) ≡ Some l) × (i ≤ l)
  has_last_after (Bears u b) h i lt = last_more start a pass u b s i lt
  has_last_after _ h i lt = s.has_last i lt

  -- what is past the count is unborn
  unborn_after : (what : Happening) → May what → (i : ℕ) → (after what).count ≤ i → (after what).state i ≡ Unborn
  unborn_after (GivesUp c) h i le = let u = s.unborn i le in grind (arith, nat_tests)
  unborn_after (Bears v b) h i le = let u = s.unborn i in grind (arith, nat_tests)
  unborn_after (Inserts c behind) h i le = let held = h.in_hand in let u = s.unborn i in grind (arith, nat_tests)
  unborn_after (Removes c) h i le = let u = s.unborn i le in grind (arith, nat_tests)
  unborn_after (Replaces old c) h i le =
      let held = h.in_hand in let linked = h.linked in let u = s.unborn i in grind (arith, nat_tests)
  unborn_after (Unlinks c behind) h i le = let marked = h.0 in let u = s.unborn i in grind (arith, nat_tests)
  unborn_after (Stamps c r) h i le = let u = s.unborn i le in grind (arith, nat_tests)
  unborn_after _ h i le = s.unborn i le

  -- of two of a slot the earlier is passed by the later
  passed_after : (what : Happening) → May what → (i d : ℕ) → i < d → d < (after what).count →
      (after what).slot i ≡ (after what).slot d → IsPassed ((after what).state i) ((after what).birth d)
  passed_after (GivesUp c) h i d lt b q = let u = s.passed i d lt b q in grind (arith, nat_tests)
  passed_after (Bears v b) h i d lt bd q =
      let u = s.passed i d lt in passed_more start keys a pass v b s h i d lt bd q u
  passed_after (Inserts c behind) h i d lt b q =
      let held = h.in_hand in let u = s.passed i d in grind (arith, nat_tests)
  passed_after (Removes c) h i d lt b q = let u = s.passed i d lt b q in grind (arith, nat_tests)
  passed_after (Replaces old c) h i d lt b q =
      let held = h.in_hand in let linked = h.linked in let u = s.passed i d in grind (arith, nat_tests)
  passed_after (Unlinks c behind) h i d lt b q = let marked = h.0 in let u = s.passed i d in grind (arith, nat_tests)
  passed_after (Stamps c r) h i d lt b q = let u = s.passed i d lt b q in grind (arith, nat_tests)
  passed_after _ h i d lt b q = s.passed i d lt b q

  -- a birth is no later than the epoch
  born_after : (what : Happening) → May what → (i : ℕ) → i < (after what).count →
      (after what).birth i ≤ (after what).epoch
  born_after Advances h i lt = let u = s.born i lt in omega arith
  born_after (Bears v b) h i lt = let u = s.born i in grind (arith, nat_tests)
  born_after _ h i lt = s.born i lt

  -- birth, unlinking, stamp and epoch follow one another
  times_after : (what : Happening) → May what → (i : ℕ) →
      TimesFit ((after what).state i) ((after what).birth i) (after what).epoch
  times_after Advances h i = let u = s.times i in grind (arith, nat_tests)
  times_after (GivesUp c) h i = let u = s.times i in grind (arith, nat_tests)
  times_after (Bears v b) h i = let z = s.unborn a.count (omega arith) in let u = s.times i in grind (arith, nat_tests)
  times_after (Inserts c behind) h i = let held = h.in_hand in let u = s.times i in grind (arith, nat_tests)
  times_after (Removes c) h i = let u = s.times i in grind (arith, nat_tests)
  times_after (Replaces old c) h i =
      let held = h.in_hand in let linked = h.linked in let u = s.times i in grind (arith, nat_tests)
  times_after (Unlinks c behind) h i =
      let marked = h.0 in
      let w = live_last s c (rw h.0 tt) in
      let u = s.times i in
      let x = s.born c in
      grind (arith, nat_tests)
  times_after (Stamps c r) h i = let u = s.times i in grind (arith, nat_tests)
  times_after _ h i = s.times i

  -- a stamp fits its incarnation
  stamps_after : (what : Happening) → May what → (i : ℕ) →
      StampFits ((after what).state i) ((after what).birth i) ((after what).stamp ((after what).slot i))
  stamps_after (GivesUp c) h i = let u = s.stamps i in grind (arith, nat_tests)
  stamps_after (Bears v b) h i =
      let z = s.unborn a.count (omega arith) in let u = s.stamps i in grind (arith, nat_tests)
  stamps_after (Inserts c behind) h i = let held = h.in_hand in let u = s.stamps i in grind (arith, nat_tests)
  stamps_after (Removes c) h i = let u = s.stamps i in grind (arith, nat_tests)
  stamps_after (Replaces old c) h i =
      let held = h.in_hand in let linked = h.linked in let u = s.stamps i in grind (arith, nat_tests)
  stamps_after (Unlinks c behind) h i = let marked = h.0 in let u = s.stamps i in grind (arith, nat_tests)
  stamps_after (Stamps c r) h i = stamps_more start a pass c r s h i (s.stamps i)
  stamps_after _ h i = s.stamps i

  -- the link that a last one shows is marked, or above the stamp
  links_after : (what : Happening) → May what → (i v : ℕ) → (after what).last v ≡ Some i →
      LinkFits ((after what).state i) ((after what).link i) ((after what).stamp v)
  links_after (GivesUp c) h i p q = let u = s.links i p q in grind (arith, nat_tests)
  links_after (Bears v b) h i p q = let u = s.links i p in let w = shows s v (a.last v) refl in grind (arith, nat_tests)
  links_after (Aims c link) h i p q =
      let u = s.links i p q in let v = s.stamps i in let x = s.last_born p i q in grind (arith, nat_tests)
  links_after (Inserts c behind) h i p q = let held = h.in_hand in let u = s.links i p q in grind (arith, nat_tests)
  links_after (Removes c) h i p q = let u = s.links i p q in grind (arith, nat_tests)
  links_after (Replaces old c) h i p q =
      let held = h.in_hand in let linked = h.linked in let u = s.links i p q in grind (arith, nat_tests)
  links_after (Unlinks c behind) h i p q = let marked = h.0 in let u = s.links i p q in grind (arith, nat_tests)
  links_after (Stamps c r) h i p q =
      let u = s.links i p q in
      let w = (live_last s c (unlinked_live (a.state c) pass r a.epoch h)).1 in
      let x = s.last_born p i q in
      grind (arith, nat_tests)
  links_after _ h i p q = s.links i p q

  -- a slot that nothing was born in is in a pool
  unused_after : (what : Happening) → May what → (v : ℕ) → (after what).last v ≡ None → IsUnused ((after what).place v)
  unused_after (Gains v) h p q = let u = s.unused p q in grind (arith, nat_tests)
  unused_after (Raises v) h p q = let u = s.unused p q in grind (arith, nat_tests)
  unused_after (Bears v b) h p q = let u = s.unused p in grind (arith, nat_tests)
  unused_after (Inserts c behind) h p q =
      let w = live_last s c (rw h.in_hand tt) in let u = s.unused p q in grind (arith, nat_tests)
  unused_after (Replaces old c) h p q =
      let w = live_last s c (rw h.in_hand tt) in let u = s.unused p q in grind (arith, nat_tests)
  unused_after (Unlinks c behind) h p q =
      let w = live_last s c (rw h.0 tt) in let u = s.unused p q in grind (arith, nat_tests)
  unused_after _ h p q = s.unused p q

  -- a place fits the last incarnation
  placed_after : (what : Happening) → May what → (i v : ℕ) → (after what).last v ≡ Some i →
      PlaceFits start ((after what).place v) ((after what).state i) ((after what).key i)
  placed_after (Gains v) h i p q = let u = s.placed i p q in grind (arith, nat_tests)
  placed_after (Raises v) h i p q = let u = s.placed i p q in grind (arith, nat_tests)
  placed_after (GivesUp c) h i p q = let u = s.placed i p q in grind (arith, nat_tests)
  placed_after (Bears v b) h i p q = let u = s.placed i p in let w = s.last_born p i in grind (arith, nat_tests)
  placed_after (Keyed c key) h i p q = let u = s.placed i p q in grind (arith, nat_tests)
  placed_after (Inserts c behind) h i p q =
      let held = h.in_hand in
      let w = live_last s c (rw h.in_hand tt) in
      let u = s.placed i p q in
      let x = s.last_born p i q in
      grind (arith, nat_tests)
  placed_after (Removes c) h i p q = let u = s.placed i p q in grind (arith, nat_tests)
  placed_after (Replaces old c) h i p q =
      let held = h.in_hand in
      let linked = h.linked in
      let w = live_last s c (rw h.in_hand tt) in
      let u = s.placed i p q in
      let x = s.last_born p i q in
      grind (arith, nat_tests)
  placed_after (Unlinks c behind) h i p q =
      let marked = h.0 in
      let w = live_last s c (rw h.0 tt) in
      let u = s.placed i p q in
      let x = s.last_born p i q in
      grind (arith, nat_tests)
  placed_after (Stamps c r) h i p q = let u = s.placed i p q in grind (arith, nat_tests)
  placed_after _ h i p q = s.placed i p q

pub slots_kept : (start : Start) (keys : Keys) (a : Incarnations) (pass : ℕ) (what : Happening) → SlotsSound start a →
    Allowed start keys a pass what → SlotsSound start (becomes start a pass what)
slots_kept start keys a pass what s h = record {
  last_born = last_born_after start keys a pass s what h;
  has_last = has_last_after start keys a pass s what h;
  unborn = unborn_after start keys a pass s what h;
  passed = passed_after start keys a pass s what h;
  born = born_after start keys a pass s what h;
  times = times_after start keys a pass s what h;
  stamps = stamps_after start keys a pass s what h;
  links = links_after start keys a pass s what h;
  unused = unused_after start keys a pass s what h;
  placed = placed_after start keys a pass s what h;
}
