-- The slot in hand stays while others are read and retired.
use Rattle.vbr_list.proofs.Names.{◌≡◌, ◌≢◌, ℕ, suc, ◌-◌, ◌<◌, Bool, true, false, cond, List, [], ◌∷◌, ◌++◌, length}
use Rattle.vbr_list.proofs.Names.{Option, Some, None, refl, sym, ap, ◌∙◌, subst, arith, inl, inr, ◌⊎◌, cases_Bool}
use Rattle.vbr_list.proofs.Names.{nat_tests, Free, Holding, is_kept, IsInHand, IsUnlinked, KeepsHand, KeepsOwn}
use Rattle.vbr_list.proofs.Names.{KeepsUnlinked, Know, know_retired, knows, none_on, none_refl, own_read, OwnPool}
use Rattle.vbr_list.proofs.Names.{PassView, POOL, pool_retired, put_here, put_other, read_epoch, reread, StaysInTurn}
use Rattle.vbr_list.proofs.Names.{TakesNoSlot, unlinks_none}
use Rattle.vbr_slots.specs.pools.Pools as pools

pub hand_refl : (p : PassView) → KeepsHand p p
hand_refl p = record { hand = refl; in_hand = λ s e. refl; room = λ h. h; takes_no_slot = none_refl p }

pub hand_on : {p q r : PassView} → KeepsHand p q → KeepsHand q r → KeepsHand p r
hand_on {p} {q} {r} x y = record {
  hand = y.hand ∙ x.hand;
  in_hand = λ s e. y.in_hand s (x.hand ∙ e) ∙ x.in_hand s e;
  room = λ h. y.room (x.room h);
  takes_no_slot = none_on x.takes_no_slot y.takes_no_slot;
}

pub own_kept : {p q : PassView} → KeepsOwn p q → TakesNoSlot p q → KeepsHand p q
own_kept {p} {q} x none = record {
  hand = x.hand;
  in_hand = x.in_hand;
  room = let P : List ℕ → Type 0 = λ l. length l < POOL in subst P (sym x.pool);
  takes_no_slot = none;
}

-- ---- a slot is retired

hand_reread : (holding : Option Holding) → IsInHand holding → reread holding ≡ holding
hand_reread holding h = grind arith

not_both : (holding : Option Holding) → IsInHand holding → IsUnlinked holding → ⊥
not_both holding h u = grind arith

-- a pool with a free place keeps one
place_kept : (pool : List ℕ) (slot : ℕ) → length pool < POOL → length (pool_retired pool slot) < POOL
place_kept pool slot h = go (cases_Bool (is_kept pool))
  where
    one : (xs : List ℕ) → length (xs ++ slot ∷ []) ≡ suc (length xs)
    one [] = refl
    one (x ∷ xs) = ap suc (one xs)

    go : (is_kept pool ≡ true) ⊎ (is_kept pool ≡ false) → length (pool_retired pool slot) < POOL
    go (inl t) =
        let e = one pool in let u : length pool < POOL - 1 = grind (arith, nat_tests) in rw (t, e) (omega arith)
    go (inr f) = rw f h

pub retired_hand : {p q : PassView} (slot : ℕ) → OwnPool p.trace.start (knows p.trace) p.pool p.hand →
    IsUnlinked ((knows p.trace).own slot) →
    knows q.trace ≡ know_retired (knows p.trace) (knows q.trace).epoch slot (is_kept p.pool) →
    q.pool ≡ pool_retired p.pool slot → q.hand ≡ p.hand → TakesNoSlot p q → KeepsHand p q
retired_hand {p} {q} slot own unlinked known pool hand none =
    record {
      hand = hand;
      in_hand = same;
      room = λ h. let P : List ℕ → Type 0 = λ l. length l < POOL in subst P (sym pool) (place_kept p.pool slot h);
      takes_no_slot = none;
    }
  where
    same : (s : ℕ) → p.hand ≡ Some s → (knows q.trace).own s ≡ (knows p.trace).own s
    same s e =
        let P : Option ℕ → Type 0 = pools.HandFits p.trace.start (knows p.trace) p.pool in
        let in_hand = (subst P e own.in_hand).1 in
        let other : s ≢ slot =
        λ x. not_both ((knows p.trace).own s) in_hand
        (let Q : ℕ → Type 0 = λ t. IsUnlinked ((knows p.trace).own t) in subst Q (sym x) unlinked) in
        ap (λ (k : Know). k.own s) known
        ∙ put_other (read_epoch (knows p.trace) (knows q.trace).epoch).own slot
        (cond (is_kept p.pool) (Some (Free (knows q.trace).epoch)) None) s other
        ∙ own_read (knows p.trace) (knows q.trace).epoch s ∙ hand_reread ((knows p.trace).own s) in_hand

-- a slot that was retired is stamped
retired_stamped : (know later : Know) (epoch slot : ℕ) (kept : Bool) → later ≡ know_retired know epoch slot kept →
    ¬ (IsUnlinked (later.own slot))
retired_stamped know later epoch slot kept is u =
    free kept (subst IsUnlinked
    (ap (λ (k : Know). k.own slot) is ∙ put_here (read_epoch know epoch).own slot (cond kept (Some (Free epoch)) None))
    u)
  where
    free : (b : Bool) → IsUnlinked (cond b (Some (Free epoch)) None) → ⊥
    free true x = x
    free false x = x

-- a slot is unlinked, and then retired
pub helped_hand : {p q r : PassView} {slot : ℕ} → KeepsOwn p q → KeepsUnlinked slot p q → KeepsHand q r →
    StaysInTurn q.trace r.trace →
    knows r.trace ≡ know_retired (knows q.trace) (knows r.trace).epoch slot (is_kept q.pool) → KeepsHand p r
helped_hand {p} {q} {r} {slot} x u y turn known = record {
  hand = y.hand ∙ x.hand;
  in_hand = λ s e. y.in_hand s (x.hand ∙ e) ∙ x.in_hand s e;
  room = λ h. y.room (let P : List ℕ → Type 0 = λ l. length l < POOL in subst P (sym x.pool) h);
  takes_no_slot =
      unlinks_none p q r u y.takes_no_slot turn
      (retired_stamped (knows q.trace) (knows r.trace) (knows r.trace).epoch slot (is_kept q.pool) known);
}

-- ---- the hand itself
