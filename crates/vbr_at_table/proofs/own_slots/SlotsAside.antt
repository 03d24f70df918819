-- Slots that a pass has put aside, in hand outside its pool and its hand, from step to step.
use Rattle.std.proofs.Common.{◌≡◌, ℕ, ◌==◌, Bool, true, false, cond, List, Option, Some, None, refl, sym, ap, ◌∙◌}
use Rattle.std.proofs.Common.{subst, inl, inr}
use Rattle.std.specs.Prelude.{◌⊎◌, Contains}
use Rattle.std.proofs.lemmas.Bool.{ne_eqb}
use Rattle.vbr_words.specs.Flags.{has_flag}
use Rattle.vbr_machine.specs.Put.{put}
use Rattle.vbr_machine.specs.Acceptance.{IsInHand}
use Rattle.vbr_machine.specs.Knowledge.{Know}
use Rattle.vbr_machine.specs.Learning.{learn, reread}
use Rattle.vbr_machine.specs.declared.event.Step.{Step}
use Rattle.vbr_machine.specs.declared.event.Step.TheVariants.{ReadEpoch, StoreStamp, Raise, TakeFlag, StoreBirth}
use Rattle.vbr_machine.specs.declared.event.Step.TheVariants.{StoreKey, StoreValue, StoreLink, Publish, Mark, Replace}
use Rattle.vbr_machine.specs.declared.event.Step.TheVariants.{Unlink}
use Rattle.vbr_machine.specs.declared.knowledge.Holding.{Holding}
use Rattle.vbr_machine.specs.declared.knowledge.Holding.TheVariants.{Free, Unlinked, InHand}
use Rattle.vbr_machine.proofs.Lemmas.{put_other}
use Rattle.vbr_slots.specs.pools.Pools.{hand_without}
use Rattle.vbr_slots.specs.views.Views.{Trace, PassView, Did, KeepsPool, knows}
use Rattle.vbr_at_table.specs.hands.KeptSlots.{HasSlot, IsAside, StaysAside, KeepsAside}
use Rattle.vbr_at_table.specs.costs.StepKinds.{bears_in, births_in}
use Rattle.vbr_at_table.proofs.steps.StepCounts.{same_made}

-- ---- what a step leaves of a slot in hand

-- the slot that a step takes, gives, or stores in
abbrev pub handled : Step → Option ℕ
handled (StoreStamp s stamp) = Some s
handled (Raise s) = Some s
handled (TakeFlag s) = Some s
handled (StoreBirth s birth) = Some s
handled (StoreKey s key) = Some s
handled (StoreValue s value) = Some s
handled (StoreLink s next) = Some s
handled (Publish pred expected s) = Some s
handled (Replace s expected t) = Some t
handled (Unlink pred expected s) = Some s
handled _ = None

pub same_slot : {s t : ℕ} → Some s ≡ Some t → s ≡ t
same_slot e = cc

pub still_in_hand : (holding : Option Holding) → IsInHand holding → reread holding ≡ holding
still_in_hand None is = refl
still_in_hand (Some (Free stamp)) is = refl
still_in_hand (Some (Unlinked seen)) is = absurd is
still_in_hand (Some (InHand known)) is = refl

module _ (know : Know) (s : ℕ) where
  -- what is known of the slot is the same
  abbrev Same : Know → Type 0
  Same later = later.own s ≡ know.own s

  either_same : (b : Bool) (x y : Know) → Same x → Same y → Same (cond b x y)
  either_same true x y f g = f
  either_same false x y f g = g

  beside : (t : ℕ) (new : Option Holding) → (Some t ≡ Some s → ⊥) → put know.own t new s ≡ know.own s
  beside t new other = put_other know.own t new s (λ e. other (ap Some (sym e)))

  own_left : (step : Step) (found stamp : ℕ) → IsInHand (know.own s) → (handled step ≡ Some s → ⊥) →
      Same (learn step found stamp know)
  own_left ReadEpoch found stamp is other =
      either_same (found == know.epoch) _ _ (still_in_hand (know.own s) is) (still_in_hand (know.own s) is)
  own_left (StoreStamp t new) found stamp is other = beside t _ other
  own_left (Raise t) found stamp is other = beside t _ other
  own_left (TakeFlag t) found stamp is other = either_same (has_flag found t) _ know (beside t _ other) refl
  own_left (StoreBirth t birth) found stamp is other = beside t _ other
  own_left (StoreKey t key) found stamp is other = beside t _ other
  own_left (StoreValue t value) found stamp is other = beside t _ other
  own_left (StoreLink t next) found stamp is other = beside t _ other
  own_left (Publish pred expected t) found stamp is other =
      either_same (found == expected) _ know (beside t None other) refl
  own_left (Mark t expected) found stamp is other = either_same (found == expected) _ know refl refl
  own_left (Replace v expected t) found stamp is other =
      either_same (found == expected) _ know (beside t None other) refl
  own_left (Unlink pred expected t) found stamp is other =
      either_same (found == expected) _ know (beside t _ other) refl
  own_left _ found stamp is other = refl

unborn : (step : Step) (s : ℕ) → (handled step ≡ Some s → ⊥) → bears_in s step ≡ false
unborn (StoreBirth t birth) s other = ne_eqb t s (λ e. other (ap Some e))
unborn _ s other = refl

-- ---- a slot that is put aside

-- the step handles no slot, or one that the pass has
abbrev pub HasHandled : PassView → Option ℕ → Type 0
HasHandled p None = Unit {0}
HasHandled p (Some s) = HasSlot p s

apart : (p : PassView) (s : ℕ) (slot : Option ℕ) → HasHandled p slot → ¬ (HasSlot p s) → slot ≡ Some s → ⊥
apart p s None has none e = absurd (cc)
apart p s (Some t) has none e = none (subst (HasSlot p) (same_slot e) has)

-- a step that handles another slot leaves it, if it doesn't come into the pool or the hand
pub did_aside : {step : Step} {p q : PassView} {r : ℕ} → Did step p.trace q.trace r → (s : ℕ) →
    IsInHand ((knows p.trace).own s) → (handled step ≡ Some s → ⊥) → ¬ (HasSlot q s) → StaysAside p q s
did_aside {step} {p} {q} {r} d s is other none = record {
  known = ap (λ (k : Know). k.own s) d.know ∙ own_left (knows p.trace) s step r _ is other;
  outside = none;
  births = same_made (bears_in s) d (unborn step s other);
}

pub keeps_aside : {step : Step} {p q : PassView} {r : ℕ} → Did step p.trace q.trace r → HasHandled p (handled step) →
    ((s : ℕ) → ¬ (HasSlot p s) → ¬ (HasSlot q s)) → KeepsAside p q
keeps_aside {step} {p} d has same s a = did_aside d s a.0 (apart p s (handled step) has a.1) (same s a.1)

-- what isn't in the pool or the hand isn't there where these stay
pub pool_aside : (p q : PassView) → KeepsPool p q → (s : ℕ) → ¬ (HasSlot p s) → ¬ (HasSlot q s)
pool_aside p q pool s none has =
    none (subst (λ (x : List ℕ × Option ℕ). Contains x.0 s ⊎ (x.1 ≡ Some s)) (λ i. (pool.0 i, pool.1 i)) has)

-- nor where the slot in hand has left it
pub spent_aside : (p q : PassView) → q.pool ≡ p.pool → q.hand ≡ None → (s : ℕ) → ¬ (HasSlot p s) → ¬ (HasSlot q s)
spent_aside p q pool hand s none (inl c) = none (inl (subst (λ (l : List ℕ). Contains l s) pool c))
spent_aside p q pool hand s none (inr h) = absurd (cc)

-- what was in a hand that was left by another slot was there before
pub hand_was : (slot s : ℕ) (hand : Option ℕ) → hand_without slot hand ≡ Some s → hand ≡ Some s
hand_was slot s None e = e
hand_was slot s (Some t) e = go (t == slot) e
  where
    go : (b : Bool) → cond b None (Some t) ≡ Some s → Some t ≡ Some s
    go true e = absurd (cc)
    go false e = e

-- ---- from piece to piece

pub stays_on : {p q r : PassView} {s : ℕ} → StaysAside p q s → StaysAside q r s → StaysAside p r s
stays_on x y =
    record { known = y.known ∙ x.known; outside = y.outside; births = y.births ∙ x.births }

pub still_aside : {p q : PassView} {s : ℕ} → IsAside p s → StaysAside p q s → IsAside q s
still_aside a x = (subst IsInHand (sym x.known) a.0, x.outside)

pub aside_on : (p q r : PassView) → KeepsAside p q → KeepsAside q r → KeepsAside p r
aside_on p q r a b s h = stays_on (a s h) (b s (still_aside h (a s h)))

pub aside_refl : (p : PassView) → KeepsAside p p
aside_refl p s a = record { known = refl; outside = a.1; births = refl }

-- a pass that has seen the same
pub stays_seen : (p q r : PassView) → r.trace ≡ q.trace → r.pool ≡ q.pool → r.hand ≡ q.hand → {s : ℕ} →
    StaysAside p q s → StaysAside p r s
stays_seen p q r same pool hand {s} x = record {
  known = ap (λ (t : Trace). (knows t).own s) same ∙ x.known;
  outside = pool_aside q r (pool, hand) s x.outside;
  births = ap (λ (t : Trace). births_in s t) same ∙ x.births;
}

-- where no step was made
pub aside_seen : (p q : PassView) → q.trace ≡ p.trace → ((s : ℕ) → ¬ (HasSlot p s) → ¬ (HasSlot q s)) →
    KeepsAside p q
aside_seen p q same outside s a = record {
  known = ap (λ (t : Trace). (knows t).own s) same;
  outside = outside s a.1;
  births = ap (λ (t : Trace). births_in s t) same;
}
