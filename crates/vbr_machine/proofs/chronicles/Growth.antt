-- What was there stays: after each allowed event, and after each lawful chronicle.
use Rattle.std.proofs.Common.{◌≡◌, ℕ, ◌<◌, ◌≤◌, List, [], ◌∷◌, refl, arith, ◌∙◌}
use Rattle.std.proofs.lemmas.Bool.Decides.{nat_tests}
use Rattle.vbr_machine.specs.Start.{Start}
use Rattle.vbr_machine.specs.Keys.{Keys}
use Rattle.vbr_machine.specs.Incarnations.{Incarnations, IsLate}
use Rattle.vbr_machine.specs.Chronicles.{Happening, Advances, GivesUp, Bears, Keyed, Valued, Inserts, Removes, Replaces}
use Rattle.vbr_machine.specs.Chronicles.{Unlinks, Stamps, AtHead, AtNode, Entry, Allowed, becomes, incarnations_from}
use Rattle.vbr_machine.specs.Chronicles.{IsLawful}
use Rattle.vbr_machine.specs.Sound.{IsInserted, IsRemoved, Sound, Grows}
use Rattle.vbr_machine.proofs.chronicles.Slots.{late_inserted, inserted_late}
use Rattle.vbr_machine.proofs.chronicles.SoundAfter.{sound_kept}

module _ (start : Start) (keys : Keys) (a : Incarnations) (pass : ℕ) where
  -- the incarnations after an event
  abbrev after : Happening → Incarnations
  after what = becomes start a pass what

  -- the event is allowed
  abbrev May : Happening → Type 0
  May what = Allowed start keys a pass what

  -- what was late stays late
  late_on : (what : Happening) → Sound start a → May what → (i e : ℕ) → e ≤ a.epoch → IsLate (a.state i) e →
      IsLate ((after what).state i) e
  late_on (GivesUp c) s h i e le l = grind (arith, nat_tests)
  late_on (Bears v birth) s h i e le l = let z = s.slots.unborn a.count (omega arith) in grind (arith, nat_tests)
  late_on (Inserts c behind) s h i e le l = let z = h.in_hand in grind (arith, nat_tests)
  late_on (Removes c) s h i e le l = grind (arith, nat_tests)
  late_on (Replaces old c) s h i e le l = let z = h.in_hand in let y = h.linked in grind (arith, nat_tests)
  late_on (Unlinks c behind) s h i e le l = let z = h.0 in grind (arith, nat_tests)
  late_on (Stamps c stamp) s h i e le l = grind (arith, nat_tests)
  late_on _ s h i e le l = l

  -- what was removed stays so, and keeps its successor
  removed_on : (what : Happening) → Sound start a → May what → (i : ℕ) → IsRemoved (a.state i) →
      IsRemoved ((after what).state i) × ((after what).next i ≡ a.next i)
  removed_on (GivesUp c) s h i g = grind (arith, nat_tests)
  removed_on (Bears v birth) s h i g = let z = s.slots.unborn a.count (omega arith) in grind (arith, nat_tests)
  removed_on (Inserts c (AtHead b)) s h i g = let z = h.in_hand in grind (arith, nat_tests)
  removed_on (Inserts c (AtNode p)) s h i g = let z = h.in_hand in let y = h.is_open in grind (arith, nat_tests)
  removed_on (Removes c) s h i g = grind (arith, nat_tests)
  removed_on (Replaces old c) s h i g = let z = h.in_hand in let y = h.linked in grind (arith, nat_tests)
  removed_on (Unlinks c (AtHead b)) s h i g = let z = h.0 in grind (arith, nat_tests)
  removed_on (Unlinks c (AtNode p)) s h i g = let z = h.0 in let y = h.1 in grind (arith, nat_tests)
  removed_on (Stamps c stamp) s h i g = grind (arith, nat_tests)
  removed_on _ s h i g = (g, refl)

  -- what was born keeps its slot and its birth
  born_on : (what : Happening) → (i : ℕ) → i < a.count →
      ((after what).slot i ≡ a.slot i) × ((after what).birth i ≡ a.birth i)
  born_on (Bears v birth) i l = (grind (arith, nat_tests), grind (arith, nat_tests))
  born_on _ i l = (refl, refl)

  -- and what was inserted its key, its value and its rank
  kept_on : (what : Happening) → Sound start a → May what → (i : ℕ) → IsInserted (a.state i) →
      ((after what).key i ≡ a.key i) × ((after what).value i ≡ a.value i) × ((after what).rank i ≡ a.rank i)
  kept_on (Bears v birth) s h i l =
      let z = s.slots.unborn a.count (omega arith) in (grind (arith, nat_tests), grind (arith, nat_tests), refl)
  kept_on (Keyed c key) s h i l = (grind (arith, nat_tests), refl, refl)
  kept_on (Valued c value) s h i l = let z = h.0 in (refl, grind (arith, nat_tests), refl)
  kept_on (Replaces old c) s h i l = let z = h.in_hand in (refl, refl, grind (arith, nat_tests))
  kept_on _ s h i l = (refl, refl, refl)

  -- the epoch and the count don't fall
  counts_on : (what : Happening) → (a.epoch ≤ (after what).epoch) × (a.count ≤ (after what).count)
  counts_on Advances = (omega arith, omega arith)
  counts_on _ = (omega arith, omega arith)

pub grows : (start : Start) (keys : Keys) (a : Incarnations) (pass : ℕ) (what : Happening) → Sound start a →
    Allowed start keys a pass what → Grows a (becomes start a pass what)
grows start keys a pass what s h = record {
  epoch = (counts_on start keys a pass what).0;
  count = (counts_on start keys a pass what).1;
  slot = λ i l. (born_on start keys a pass what i l).0;
  birth = λ i l. (born_on start keys a pass what i l).1;
  key = λ i l. (kept_on start keys a pass what s h i l).0;
  value = λ i l. (kept_on start keys a pass what s h i l).1;
  rank = λ i l. (kept_on start keys a pass what s h i l).2;
  late = late_on start keys a pass what s h;
  removed = removed_on start keys a pass what s h;
}

-- what was inserted stays so: it is late for the epoch 0
pub inserted_stays : {a b : Incarnations} → Grows a b → (c : ℕ) → IsInserted (a.state c) → IsInserted (b.state c)
inserted_stays {a} {b} g c l = late_inserted (b.state c) 0 (g.late c 0 (omega arith) (inserted_late (a.state c) l))

-- what stays the same grows
grows_same : (a : Incarnations) → Grows a a
grows_same a = record {
  epoch = omega arith;
  count = omega arith;
  slot = λ i l. refl;
  birth = λ i l. refl;
  key = λ i l. refl;
  value = λ i l. refl;
  rank = λ i l. refl;
  late = λ i e le l. l;
  removed = λ i g. (g, refl);
}

pub grows_on : {a b c : Incarnations} → Grows a b → Grows b c → Grows a c
grows_on {a} {b} {c} g h = record {
  epoch = let u = g.epoch in let v = h.epoch in omega arith;
  count = let u = g.count in let v = h.count in omega arith;
  slot = λ i l. h.slot i (let u = g.count in omega arith) ∙ g.slot i l;
  birth = λ i l. h.birth i (let u = g.count in omega arith) ∙ g.birth i l;
  key = λ i l. h.key i (inserted_stays g i l) ∙ g.key i l;
  value = λ i l. h.value i (inserted_stays g i l) ∙ g.value i l;
  rank = λ i l. h.rank i (inserted_stays g i l) ∙ g.rank i l;
  late = λ i e le l. h.late i e (let u = g.epoch in omega arith) (g.late i e le l);
  removed = λ i l. let u = g.removed i l in let v = h.removed i u.0 in (v.0, v.1 ∙ u.1);
}

pub grows_after : (start : Start) (keys : Keys) (a : Incarnations) (entries : List Entry) → Sound start a →
    IsLawful start keys a entries → Grows a (incarnations_from start a entries)
grows_after start keys a [] s l = grows_same a
grows_after start keys a (entry ∷ entries) s l =
    grows_on (grows start keys a entry.pass entry.what s l.0)
    (grows_after start keys (becomes start a entry.pass entry.what) entries
    (sound_kept start keys a entry.pass entry.what s l.0) l.1)
