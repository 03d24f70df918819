-- At most one incarnation of a slot is late for an epoch, among those born by it.
-- Where the epoch is unmoved, that one is the slot's last.
use Rattle.std.proofs.Common.{◌≡◌, ◌≢◌, ℕ, ◌+◌, ◌<◌, ◌≤◌, true, Option, Some, None, refl, arith, sym, subst, ap, ◌∙◌}
use Rattle.std.proofs.Common.{inl, inr, ⊎_elim}
use Rattle.std.specs.Prelude.{◌⊎◌}
use Rattle.std.proofs.lemmas.Bool.{cases_order, cases_lt}
use Rattle.vbr_machine.specs.Start.{Start}
use Rattle.vbr_machine.specs.Incarnations.{State, Unborn, InHand, GivenUp, Linked, Marked, Unlinked, Stamped}
use Rattle.vbr_machine.specs.Incarnations.{Incarnations, IsLate}
use Rattle.vbr_machine.specs.Images.{link_shown, link_in_state}
use Rattle.vbr_machine.specs.Sound.{IsListed, IsInserted, IsPassed, TimesFit, StampFits, LinkFits, SlotsSound}

-- a late one is not passed by one born no later
late_not_passed : (st : State) (birth epoch b e : ℕ) → IsLate st e → TimesFit st birth epoch → IsPassed st b → b ≤ e → ⊥
late_not_passed Unborn birth epoch b e l t p le = l
late_not_passed (InHand q) birth epoch b e l t p le = l
late_not_passed GivenUp birth epoch b e l t p le = l
late_not_passed Linked birth epoch b e l t p le = p
late_not_passed Marked birth epoch b e l t p le = p
late_not_passed (Unlinked q u) birth epoch b e l t p le = p
late_not_passed (Stamped u r) birth epoch b e l t p le = omega (arith, t.1)

-- what is late for some epoch was inserted, and what was inserted is late for the epoch 0
pub late_inserted : (st : State) (e : ℕ) → IsLate st e → IsInserted st
late_inserted st e l = grind arith

pub inserted_late : (st : State) → IsInserted st → IsLate st 0
inserted_late st l = grind arith

pub late_born : {start : Start} {a : Incarnations} → SlotsSound start a → (c e : ℕ) → IsLate (a.state c) e → c < a.count
late_born {start} {a} s c e l = go (cases_lt c a.count)
  where
    go : (c < a.count) ⊎ (a.count ≤ c) → c < a.count
    go (inl h) = h
    go (inr h) = absurd (let P : State → Type 0 = λ st. IsLate st e in subst P (s.unborn c h) l)

-- two incarnations of a slot that were born by an epoch and are late for it are one
pub one_late : {start : Start} {a : Incarnations} → SlotsSound start a → (c d e : ℕ) → a.slot c ≡ a.slot d →
    IsLate (a.state c) e → IsLate (a.state d) e → a.birth c ≤ e → a.birth d ≤ e → c ≡ d
one_late {start} {a} s c d e q lc ld bc bd = go (cases_order c d)
  where
    go : (c ≡ d) ⊎ ((c < d) ⊎ (d < c)) → c ≡ d
    go (inl h) = h
    go (inr (inl h)) =
        absurd (late_not_passed (a.state c) (a.birth c) a.epoch (a.birth d) e lc (s.times c)
        (s.passed c d h (late_born s d e ld) q) bd)
    go (inr (inr h)) =
        absurd (late_not_passed (a.state d) (a.birth d) a.epoch (a.birth c) e ld (s.times d)
        (s.passed d c h (late_born s c e lc) (sym q)) bc)

-- an incarnation that is late for the epoch as it stands is the last of its slot
pub late_last : {start : Start} {a : Incarnations} → SlotsSound start a → (c : ℕ) → IsLate (a.state c) a.epoch →
    a.last (a.slot c) ≡ Some c
late_last {start} {a} s c lc = go (s.has_last c (late_born s c a.epoch lc))
  where
    go : ((l : ℕ) × (a.last (a.slot c) ≡ Some l) × (c ≤ l)) → a.last (a.slot c) ≡ Some c
    go (l, e, le) = go2 (cases_order c l)
      where
        b : (l < a.count) × (a.slot l ≡ a.slot c)
        b = s.last_born (a.slot c) l e

        go2 : (c ≡ l) ⊎ ((c < l) ⊎ (l < c)) → a.last (a.slot c) ≡ Some c
        go2 (inl h) = e ∙ ap Some (sym h)
        go2 (inr (inl h)) =
            absurd (late_not_passed (a.state c) (a.birth c) a.epoch (a.birth l) a.epoch lc (s.times c)
            (s.passed c l h b.0 (sym b.1)) (s.born l b.0))
        go2 (inr (inr h)) = absurd (omega arith)

-- what is late for an epoch that has not come yet is listed
pub late_ahead : (st : State) (birth epoch : ℕ) → TimesFit st birth epoch → IsLate st (epoch + 1) → IsListed st
late_ahead Unborn b e t l = l
late_ahead (InHand q) b e t l = l
late_ahead GivenUp b e t l = l
late_ahead Linked b e t l = tt
late_ahead Marked b e t l = tt
late_ahead (Unlinked q u) b e t l = omega arith
late_ahead (Stamped u r) b e t l = omega arith

pub listed_late : (st : State) (e : ℕ) → IsListed st → IsLate st e
listed_late Linked e l = tt
listed_late Marked e l = tt
listed_late Unborn e l = l
listed_late (InHand q) e l = l
listed_late GivenUp e l = l
listed_late (Unlinked q u) e l = absurd l
listed_late (Stamped u r) e l = absurd l

pub listed_last : {start : Start} {a : Incarnations} → SlotsSound start a → (c : ℕ) → IsListed (a.state c) →
    a.last (a.slot c) ≡ Some c
listed_last {start} {a} s c l = late_last s c (listed_late (a.state c) a.epoch l)

-- what was born is either the last of its slot or passed
pub last_or_passed : {start : Start} {a : Incarnations} → SlotsSound start a → (c : ℕ) → c < a.count →
    (a.last (a.slot c) ≡ Some c) ⊎ ((d : ℕ) × IsPassed (a.state c) (a.birth d))
last_or_passed {start} {a} s c lt = go (s.has_last c lt)
  where
    go : ((l : ℕ) × (a.last (a.slot c) ≡ Some l) × (c ≤ l)) →
        (a.last (a.slot c) ≡ Some c) ⊎ ((d : ℕ) × IsPassed (a.state c) (a.birth d))
    go (l, e, le) = go2 (cases_order c l)
      where
        b : (l < a.count) × (a.slot l ≡ a.slot c)
        b = s.last_born (a.slot c) l e

        go2 : (c ≡ l) ⊎ ((c < l) ⊎ (l < c)) →
            (a.last (a.slot c) ≡ Some c) ⊎ ((d : ℕ) × IsPassed (a.state c) (a.birth d))
        go2 (inl h) = inl (e ∙ ap Some (sym h))
        go2 (inr (inl h)) = inr (l, s.passed c l h b.0 (sym b.1))
        go2 (inr (inr h)) = absurd (omega arith)

-- each slot shows a marked link or one with a version above its stamp
pub shows : {start : Start} {a : Incarnations} → SlotsSound start a → (s : ℕ) (l : Option ℕ) → a.last s ≡ l →
    ((link_shown a l).mark ≡ true) ⊎ (a.stamp s < (link_shown a l).version)
shows s v None e = inl refl
shows {start} {a} s v (Some c) e =
    go (a.state c) (s.links c v e)
    (let P : ℕ → Type 0 = λ w. StampFits (a.state c) (a.birth c) (a.stamp w) in
    subst P (s.last_born v c e).1 (s.stamps c))
  where
    go : (st : State) → LinkFits st (a.link c) (a.stamp v) → StampFits st (a.birth c) (a.stamp v) →
        ((link_in_state a c st).mark ≡ true) ⊎ (a.stamp v < (link_in_state a c st).version)
    go Unborn w t = absurd w
    go (InHand q) w t = w
    go GivenUp w t = w
    go Linked w t = inr (omega arith)
    go Marked w t = inl refl
    go (Unlinked q u) w t = inl refl
    go (Stamped u r) w t = inl refl

-- neither unborn, given up nor stamped
abbrev pub IsLive : State → Type 0
IsLive Unborn = ⊥
IsLive GivenUp = ⊥
IsLive (Stamped u r) = ⊥
IsLive _ = Unit {0}

live_not_passed : (st : State) (b : ℕ) → IsLive st → IsPassed st b → ⊥
live_not_passed st b l p = grind arith

-- a live incarnation is the last of its slot
pub live_last : {start : Start} {a : Incarnations} → SlotsSound start a → (c : ℕ) → IsLive (a.state c) →
    (c < a.count) × (a.last (a.slot c) ≡ Some c)
live_last {start} {a} s c l = go (cases_lt c a.count)
  where
    go : (c < a.count) ⊎ (a.count ≤ c) → (c < a.count) × (a.last (a.slot c) ≡ Some c)
    go (inr le) = absurd (let u = s.unborn c le in rw u at l)
    go (inl lt) =
        (lt, ⊎_elim (λ e. e) (λ w. absurd (live_not_passed (a.state c) (a.birth w.0) l w.1)) (last_or_passed s c lt))

-- the others of the slot of a last one are passed by it
pub others_passed : {start : Start} {a : Incarnations} → SlotsSound start a → (c i : ℕ) → a.last (a.slot c) ≡ Some c →
    i < a.count → a.slot i ≡ a.slot c → i ≢ c → IsPassed (a.state i) (a.birth c)
others_passed {start} {a} s c i e lt q ne = go (s.has_last i lt)
  where
    go : ((l : ℕ) × (a.last (a.slot i) ≡ Some l) × (i ≤ l)) → IsPassed (a.state i) (a.birth c)
    go (l, el, le) =
        let same : l ≡ c = let x : a.last (a.slot i) ≡ a.last (a.slot c) = ap a.last q in cc in
        s.passed i c (omega arith) ((s.last_born (a.slot c) c e).0) q
