-- The slots that a pass has, in its pool or in its hand, from piece to piece of a call.
use Rattle.std.proofs.Common.{◌≡◌, ◌≢◌, ℕ, List, [], ◌∷◌, ◌++◌, Bool, true, false, cond, Some, None, refl, sym, ap, ◌∙◌}
use Rattle.std.proofs.Common.{subst, eq-eqb, inl, inr, ⊎_elim, arith}
use Rattle.std.specs.Prelude.{◌⊎◌, Contains, Result, Ok, Err}
use Rattle.std.proofs.lemmas.Bool.{cases_eq}
use Rattle.std.proofs.lemmas.List.Elements.{Contains-append_left, Contains-append_right, Contains-push_cases}
use Rattle.vbr_machine.specs.Acceptance.{MayBear, IsUnlinked}
use Rattle.vbr_slots.specs.pools.Pools.{hand_without}
use Rattle.vbr_slots.specs.views.Views.{PassView, Trace, knows}
use Rattle.vbr_at_table.specs.pools.GivingBack.{PutsBack}
use Rattle.vbr_at_table.specs.hands.Hands.{HandView}
use Rattle.vbr_at_table.specs.hands.KeptSlots.{HasSlot, HasStill, HasAllButOne, HasUnpublished, PoolGrows}
use Rattle.vbr_at_table.specs.hands.KeptSlots.{UnlinkedInTurn}
use Rattle.vbr_at_table.specs.pools.Taking.{IsTaken}
use Rattle.vbr_at_table.proofs.own_slots.PoolLists.{stays_in}
use Rattle.vbr_at_table.proofs.own_slots.SlotsAside.{aside_seen, hand_was}

pub had_on : (p q r : PassView) → HasStill p q → HasStill q r → HasStill p r
had_on p q r first then slot has = then slot (first slot has)

-- a pool that grows, beside the same hand
pub had_grown : (p q : PassView) → PoolGrows p q → q.hand ≡ p.hand → HasStill p q
had_grown p q grows same slot (inl in_pool) =
    inl (subst (λ (l : List ℕ). Contains l slot) (sym grows.1) (Contains-append_left p.pool grows.0 slot in_pool))
had_grown p q grows same slot (inr in_hand) = inr (same ∙ in_hand)

-- a slot of the pool comes into the hand
pub had_taken : {p q : PassView} {hand : HandView} → p.hand ≡ None → IsTaken p q hand → HasStill p q
had_taken {p} {q} {hand} none taken slot (inl in_pool) = go (cases_eq slot hand.slot)
  where
    go : (slot ≡ hand.slot) ⊎ (slot ≢ hand.slot) → HasSlot q slot
    go (inl is) = inr (let h = taken.births.in_hand.slot in cc)
    go (inr other) =
        inl (subst (λ (l : List ℕ). Contains l slot) (sym taken.births.rest)
        (stays_in hand.slot p.pool slot other in_pool))
had_taken {p} {q} {hand} none taken slot (inr in_hand) = absurd (cc)

-- the slot in hand goes back into the pool
pub had_back : (p q : PassView) (kept : ℕ) → p.hand ≡ Some kept → q.pool ≡ p.pool ++ kept ∷ [] → HasStill p q
had_back p q kept hand back slot (inl in_pool) =
    inl (subst (λ (l : List ℕ). Contains l slot) (sym back) (Contains-append_left p.pool (kept ∷ []) slot in_pool))
had_back p q kept hand back slot (inr in_hand) =
    let is : kept ≡ slot = cc in
    inl (subst (λ (l : List ℕ). Contains l slot) (sym back)
    (Contains-append_right p.pool (kept ∷ []) slot (0, omega arith, is)))

pub put_back : (p q : PassView) (slot : ℕ) → p.hand ≡ Some slot → q.trace ≡ p.trace → q.pool ≡ p.pool ++ slot ∷ [] →
    q.hand ≡ hand_without slot p.hand → PutsBack p q slot
put_back p q slot hand same back left = record {
  trace = same;
  pool = back;
  hand = left ∙ ap (hand_without slot) hand ∙ ap (λ (b : Bool). cond b None (Some slot)) (eq-eqb slot slot refl);
  kept = record {
    free = λ s could.
        had_back p q slot hand back s (could.1 (subst (λ (t : Trace). MayBear ((knows t).own s)) same could.0));
    stamped = λ s u. subst (λ (t : Trace). IsUnlinked ((knows t).own s)) same u;
    turn = λ all turn. subst (λ (t : Trace). UnlinkedInTurn t) (sym same) turn;
    aside = aside_seen p q same outside;
  };
}
  where
    outside : (s : ℕ) → ¬ (HasSlot p s) → ¬ (HasSlot q s)
    outside s none (inl c) =
        ⊎_elim (λ before. none (inl before)) (λ (is : slot ≡ s). none (inr (hand ∙ ap Some is)))
        (Contains-push_cases p.pool slot s (subst (λ (l : List ℕ). Contains l s) back c))
    outside s none (inr h) = none (inr (hand_was slot s p.hand (sym left ∙ h)))

-- the slot in hand is published
pub had_spent : (p q : PassView) (spent : ℕ) → p.hand ≡ Some spent → q.pool ≡ p.pool → HasAllButOne p q
had_spent p q spent hand same = (spent, go)
  where
    go : (slot : ℕ) → HasSlot p slot → slot ≢ spent → HasSlot q slot
    go slot (inl in_pool) other = inl (subst (λ (l : List ℕ). Contains l slot) (sym same) in_pool)
    go slot (inr in_hand) other = absurd (other cc)

-- a call after what was kept before it
pub had_then : {E : Type 0} (p q r : PassView) (answer : Result Bool E) → HasStill p q → HasUnpublished q r answer →
    HasUnpublished p r answer
had_then p q r (Ok true) first then = (then.0, λ slot has other. then.1 slot (first slot has) other)
had_then p q r (Ok false) first then = λ slot has. then slot (first slot has)
had_then p q r (Err error) first then = λ slot has. then slot (first slot has)
