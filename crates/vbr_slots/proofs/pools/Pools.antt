-- The own pool and the hand of a pass, through its steps.
use Rattle.std.proofs.Common.{◌≡◌, ◌≢◌, ℕ, ◌<◌, ◌==◌, Bool, true, false, not, List, [], ◌∷◌, ◌++◌, get_or, Option, Some}
use Rattle.std.proofs.Common.{None, cond, refl, sym, ap, ◌∙◌, subst, ⊎_elim, eq-eqb, arith}
use Rattle.std.specs.Prelude.{Contains, filter, ◌⊎◌}
use Rattle.std.proofs.lemmas.Bool.{ne_eqb}
use Rattle.std.proofs.lemmas.Bool.Decides.{nat_tests}
use Rattle.std.proofs.lemmas.List.Elements.{All-filter, All-contains, All-contains_itself, Contains-get_or}
use Rattle.std.proofs.lemmas.List.Elements.{Contains-push_cases, filter_passes, All-push}
use Rattle.std.proofs.lemmas.List.Kept.{AllPairs-filter}
use Rattle.std.proofs.lemmas.List.Quantifiers.{all_pairs_push}
use mathlib.Core.Logic.{dite}
use native.Mathlib.Decide.{ℕ_discrete}
use Rattle.vbr_machine.specs.Start.{Start}
use Rattle.vbr_machine.specs.Acceptance.{MayBear, IsInHand, IsFree, IsUnlinked}
use Rattle.vbr_machine.specs.Knowledge.{Know}
use Rattle.vbr_machine.specs.Put.{put}
use Rattle.vbr_machine.specs.declared.knowledge.Holding.{Holding}
use Rattle.vbr_machine.specs.declared.knowledge.Holding.TheVariants.{Free, Unlinked, InHand}
use Rattle.vbr_machine.proofs.Lemmas.{put_here, put_other}
use Rattle.vbr_slots.specs.pools.Pools.{IsPooled, HandFits, OwnPool, without, hand_without}
use Rattle.vbr_slots.specs.views.Views.{PassView, knows}

-- ---- slots that leave and come

contains_before : (p : ℕ → Bool) (pool : List ℕ) (s : ℕ) → Contains (filter p pool) s → Contains pool s
contains_before p pool s c =
    All-contains (Contains pool) (filter p pool) s (All-filter p (Contains pool) pool (All-contains_itself pool)) c

-- a slot that left a pool isn't there
pub outside : (slot : ℕ) (pool : List ℕ) → ¬ (Contains (without slot pool) slot)
outside slot pool c =
    let t = All-contains (λ (x : ℕ). not (x == slot) ≡ true) (without slot pool) slot
    (filter_passes (λ (x : ℕ). not (x == slot)) pool) c in absurd (grind (arith, nat_tests))

hand_left : (start : Start) (know : Know) (slot : ℕ) (pool : List ℕ) (hand : Option ℕ) → HandFits start know pool hand →
    HandFits start know (without slot pool) hand
hand_left start know slot pool None h = tt
hand_left start know slot pool (Some s) h =
    (h.0, h.1, (λ c. h.2 (contains_before (λ (x : ℕ). not (x == slot)) pool s c)))

-- a slot leaves a pool
pub leaves : (start : Start) (know : Know) (slot : ℕ) (pool : List ℕ) (hand : Option ℕ) → OwnPool start know pool hand →
    OwnPool start know (without slot pool) hand
leaves start know slot pool hand o = record {
  pooled = All-filter (λ (x : ℕ). not (x == slot)) (IsPooled start know) pool o.pooled;
  apart = AllPairs-filter ◌≢◌ (λ (x : ℕ). not (x == slot)) pool o.apart;
  in_hand = hand_left start know slot pool hand o.in_hand;
}

-- ---- slots that become others

hand_changed : (start : Start) (know know' : Know) (slot : ℕ) (holding : Option Holding) (pool : List ℕ)
    (hand : Option ℕ) → know'.own ≡ put know.own slot holding → (hand ≡ Some slot → IsInHand holding) →
    HandFits start know pool hand → HandFits start know' pool hand
hand_changed start know know' slot holding pool None is in_hand h = tt
hand_changed start know know' slot holding pool (Some s) is in_hand h = (
  h.0,
  dite (ℕ_discrete s slot)
      (λ same. subst IsInHand
      (sym (ap (λ (f : ℕ → Option Holding). f s) is ∙ ap (put know.own slot holding) same
      ∙ put_here know.own slot holding)) (in_hand (ap Some same)))
      (λ other. subst IsInHand (sym (ap (λ (f : ℕ → Option Holding). f s) is ∙ put_other know.own slot holding s other))
      h.1),
  h.2,
)

-- what the pass knows of one slot changes
pub changes : (start : Start) (know know' : Know) (slot : ℕ) (holding : Option Holding) (pool : List ℕ)
    (hand : Option ℕ) → know'.own ≡ put know.own slot holding → (Contains pool slot → MayBear holding) →
    (hand ≡ Some slot → IsInHand holding)
    → OwnPool start know pool hand → OwnPool start know' pool hand
changes start know know' slot holding pool hand is may in_hand o = record {
  pooled = λ k d low.
      let of_pool = o.pooled k d low in
      let s : ℕ = get_or pool k d in (
        of_pool.0,
        dite (ℕ_discrete s slot)
            (λ same.
            subst MayBear
            (sym (ap (λ (f : ℕ → Option Holding). f s) is ∙ ap (put know.own slot holding) same
            ∙ put_here know.own slot holding)) (may (subst (Contains pool) same (Contains-get_or pool k d low))))
            (λ other. subst MayBear
            (sym (ap (λ (f : ℕ → Option Holding). f s) is ∙ put_other know.own slot holding s other)) of_pool.1),
      );
  apart = o.apart;
  in_hand = hand_changed start know know' slot holding pool hand is in_hand o.in_hand;
}

-- ---- what a pool says of its slots

pub pooled_may : (start : Start) (know : Know) (slot : ℕ) (pool : List ℕ) (hand : Option ℕ) →
    OwnPool start know pool hand → Contains pool slot → MayBear (know.own slot)
pooled_may start know slot pool hand o c = (All-contains (IsPooled start know) pool slot o.pooled c).1

pub held_in_hand : (start : Start) (know : Know) (slot : ℕ) (pool : List ℕ) (hand : Option ℕ) →
    OwnPool start know pool hand → hand ≡ Some slot → IsInHand (know.own slot)
held_in_hand start know slot pool hand o is = (subst (HandFits start know pool) is o.in_hand).1

-- ---- the hand

-- a slot comes into the hand
pub takes_in_hand : (start : Start) (know : Know) (slot : ℕ) (pool : List ℕ) (hand : Option ℕ) →
    slot < start.shape.slots → IsInHand (know.own slot) → ¬ (Contains pool slot) → OwnPool start know pool hand →
    OwnPool start know pool (Some slot)
takes_in_hand start know slot pool hand low in_hand not o =
    record { pooled = o.pooled; apart = o.apart; in_hand = (low, in_hand, not) }

-- a slot that was let go isn't in hand, and the hand fits still
pub let_gone : (slot : ℕ) (hand : Option ℕ) → hand_without slot hand ≢ Some slot
let_gone slot None is = absurd (cc)
let_gone slot (Some s) is = go (s == slot) refl is
  where
    go : (b : Bool) → (s == slot) ≡ b → cond b None (Some s) ≡ Some slot → ⊥
    go true e is = absurd (cc)
    go false e is = let same : (s == slot) ≡ true = eq-eqb s slot (let t : s ≡ slot = cc in t) in absurd (cc)

-- a hand with another slot, or none, lets nothing go
pub hand_stays : (slot : ℕ) (hand : Option ℕ) → hand ≢ Some slot → hand_without slot hand ≡ hand
hand_stays slot None other = refl
hand_stays slot (Some s) other = ap (λ (b : Bool). cond b None (Some s)) (ne_eqb s slot (λ e. other (ap Some e)))

-- a slot in hand is neither free nor unlinked
pub hand_alone : (start : Start) (know : Know) (slot : ℕ) (pool : List ℕ) (hand : Option ℕ) →
    OwnPool start know pool hand → hand ≡ Some slot → ¬ (IsFree (know.own slot)) × ¬ (IsUnlinked (know.own slot))
hand_alone start know slot pool hand o is = neither (know.own slot) (held_in_hand start know slot pool hand o is)
  where
    neither : (holding : Option Holding) → IsInHand holding → ¬ (IsFree holding) × ¬ (IsUnlinked holding)
    neither None in_hand = (λ free. free, λ unlinked. unlinked)
    neither (Some (Free stamp)) in_hand = absurd in_hand
    neither (Some (Unlinked reread)) in_hand = absurd in_hand
    neither (Some (InHand known)) in_hand = (λ free. free, λ unlinked. unlinked)

hand_joined : (start : Start) (know : Know) (slot : ℕ) (pool : List ℕ) (hand : Option ℕ) →
    HandFits start know pool hand → HandFits start know (pool ++ slot ∷ []) (hand_without slot hand)
hand_joined start know slot pool None h = tt
hand_joined start know slot pool (Some t) h = go (t == slot) refl
  where
    go : (b : Bool) → (t == slot) ≡ b → HandFits start know (pool ++ slot ∷ []) (cond b None (Some t))
    go true e = tt
    go false e = (
      h.0,
      h.1,
      (λ c.
          ⊎_elim h.2 (λ (same : slot ≡ t). let same' : (t == slot) ≡ true = eq-eqb t slot (sym same) in absurd (cc))
          (Contains-push_cases pool slot t c)),
    )

-- a slot that the pass may bear in comes to a pool; if it was in hand, nothing is in hand any more
pub joins : (start : Start) (know : Know) (slot : ℕ) (pool : List ℕ) (hand : Option ℕ) → slot < start.shape.slots →
    MayBear (know.own slot) → ¬ (Contains pool slot) → OwnPool start know pool hand →
    OwnPool start know (pool ++ slot ∷ []) (hand_without slot hand)
joins start know slot pool hand low may not o = record {
  pooled = All-push (IsPooled start know) pool slot o.pooled (low, may);
  apart = all_pairs_push ◌≢◌ pool slot o.apart
      (λ k d at_index same. not (subst (Contains pool) same (Contains-get_or pool k d at_index)));
  in_hand = hand_joined start know slot pool hand o.in_hand;
}

-- ---- slots that are kept

-- a free slot may be born in, and so may one in hand
pub free_may : (holding : Option Holding) → IsFree holding → MayBear holding
free_may None is = is
free_may (Some (Free stamp)) is = tt
free_may (Some (Unlinked reread)) is = is
free_may (Some (InHand known)) is = tt

pub in_hand_may : (holding : Option Holding) → IsInHand holding → MayBear holding
in_hand_may None is = is
in_hand_may (Some (Free stamp)) is = tt
in_hand_may (Some (Unlinked reread)) is = is
in_hand_may (Some (InHand known)) is = tt

-- a slot that the pass may keep joins its pool, and is in hand no more
pub pool_kept : {p q : PassView} (slot : ℕ) {pool : List ℕ} {hand : Option ℕ} → p ≡ q →
    OwnPool p.trace.start (knows p.trace) p.pool p.hand
    → slot < q.trace.start.shape.slots → IsFree ((knows q.trace).own slot) ⊎ (q.hand ≡ Some slot) →
    ¬ (Contains q.pool slot)
    → pool ≡ p.pool ++ slot ∷ [] → hand ≡ hand_without slot p.hand → OwnPool p.trace.start (knows p.trace) pool hand
pool_kept {p} {q} slot is o low kept apart pooled handed =
    let P : PassView → Type 0 =
    λ v. (slot < v.trace.start.shape.slots) × (IsFree ((knows v.trace).own slot) ⊎ (v.hand ≡ Some slot)) ×
    ¬ (Contains v.pool slot) in
    let so : P p = subst P (sym is) (low, kept, apart) in
    let holding = (knows p.trace).own slot in
    let may : MayBear holding =
    ⊎_elim (free_may holding)
    (λ held. in_hand_may holding (held_in_hand p.trace.start (knows p.trace) slot p.pool p.hand o held)) so.1 in
    subst (λ (x : List ℕ × Option ℕ). OwnPool p.trace.start (knows p.trace) x.0 x.1) (λ i. (sym pooled i, sym handed i))
    (joins p.trace.start (knows p.trace) slot p.pool p.hand so.0 may so.2 o)
