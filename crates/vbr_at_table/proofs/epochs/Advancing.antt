-- The steps of a pass that would advance the epoch, through its other steps.
use Rattle.std.proofs.Common.{◌≡◌, ◌≢◌, ℕ, ◌+◌, ◌≤◌, ◌==◌, Bool, true, false, cond, Option, Some, None, List, []}
use Rattle.std.proofs.Common.{◌∷◌, ◌++◌, length, length-append, refl, sym, ap, ◌∙◌, subst, append_assoc, append-nil}
use Rattle.std.proofs.Common.{inl, inr, ⊎_elim, arith}
use Rattle.std.specs.Prelude.{◌⊎◌, Contains}
use Rattle.std.proofs.lemmas.Bool.{cases_eq, ne_eqb}
use Rattle.std.proofs.lemmas.List.Elements.{Contains-append_left, Contains-append_right, Contains-push_cases}
use Rattle.vbr_machine.specs.Start.{Start}
use Rattle.vbr_words.specs.Flags.{has_flag}
use Rattle.vbr_words.specs.declared.link.Link.{Link}
use Rattle.vbr_machine.specs.Put.{put}
use Rattle.vbr_machine.specs.Acceptance.{IsInHand, IsUnlinked, MayBear, stamp_in}
use Rattle.vbr_machine.specs.Knowledge.{Know}
use Rattle.vbr_machine.specs.Learning.{learn, reread, with_key, with_value, with_link}
use Rattle.vbr_machine.specs.Needs.{NeedsAdvance}
use Rattle.vbr_machine.specs.Runs.{IsRun, know_after, Begins}
use Rattle.vbr_machine.specs.declared.event.Step.{Step}
use Rattle.vbr_machine.specs.declared.event.Step.TheVariants.{ReadEpoch, Advance, StoreStamp, Raise, TakeFlag}
use Rattle.vbr_machine.specs.declared.event.Step.TheVariants.{StoreBirth, StoreKey, StoreLink, Publish, Mark, Replace}
use Rattle.vbr_machine.specs.declared.event.Step.TheVariants.{Unlink, StoreValue}
use Rattle.vbr_machine.specs.declared.knowledge.Holding.{Holding}
use Rattle.vbr_machine.specs.declared.knowledge.Unpublished.{Unpublished}
use Rattle.vbr_machine.specs.declared.knowledge.Holding.TheVariants.{Free, Unlinked, InHand}
use Rattle.vbr_machine.proofs.Lemmas.{begins_trans, others_leave_know, put_here, put_other}
use Rattle.vbr_slots.specs.steps.Calls.{Quiet}
use Rattle.vbr_slots.specs.pools.Pools.{hand_without}
use Rattle.vbr_slots.specs.views.Views.{Trace, PassView, Did, KeepsPool, knows, event_of}
use Rattle.vbr_slots.proofs.Lemmas.{did_moment, moment_after}
use Rattle.vbr_at_table.specs.costs.Advances.{AdvancesOnce, AdvancesWhereNeeded}
use Rattle.vbr_at_table.specs.costs.StepKinds.{is_advance, is_raise, is_try, advances}
use Rattle.vbr_at_table.specs.costs.StepKinds.{births_in, flags_raised, flags_tried}
use Rattle.vbr_at_table.specs.hands.KeptSlots.{GoesInTurn, HasSlot, CouldTake, HasFree, StampsUnlinked, KeepsAside}
use Rattle.vbr_at_table.specs.hands.KeptSlots.{KeepsSlots, PoolGrows}
use Rattle.vbr_at_table.specs.costs.FlagsInNeed.{WinsNoFlag}
use Rattle.vbr_at_table.specs.hands.KeptSlots.{SharesWhereFull, TakesNoSlot, TriesNoFlag}
use Rattle.vbr_at_table.proofs.flags.FlagsInNeed.{wins_none, wins_none_on, wins_none_refl}
use Rattle.vbr_at_table.proofs.returns.InTurn.{did_turn, is_unlink}
use Rattle.vbr_at_table.proofs.own_slots.SlotsAside.{HasHandled, aside_on, aside_refl, did_aside, handled, keeps_aside}
use Rattle.vbr_at_table.proofs.own_slots.SlotsAside.{hand_was, pool_aside, same_slot, stays_seen}
use Rattle.vbr_at_table.proofs.steps.StepCounts.{did_made, same_made}
use Rattle.vbr_machine.specs.Disturbances.{one_if}

-- whether a step may advance the epoch, give its pass a slot that it may give birth in or has to stamp, or raise a flag
abbrev pub advances_or_gives : Step → Bool
advances_or_gives (Advance from) = true
advances_or_gives (StoreStamp s stamp) = true
advances_or_gives (Raise s) = true
advances_or_gives (TakeFlag s) = true
advances_or_gives (StoreBirth s birth) = true
advances_or_gives (Unlink pred expected s) = true
advances_or_gives _ = false

pub did_advances : {step : Step} {p q : Trace} {r : ℕ} → Did step p q r →
    advances q ≡ advances p + one_if (is_advance step)
did_advances d = did_made is_advance d

pub same_advances : {step : Step} {p q : Trace} {r : ℕ} → Did step p q r → is_advance step ≡ false →
    advances q ≡ advances p
same_advances d e = same_made is_advance d e

pub same_flags : {step : Step} {p q : Trace} {r : ℕ} → Did step p q r → is_raise step ≡ false →
    flags_raised q ≡ flags_raised p
same_flags d e = same_made is_raise d e

pub same_tries : {step : Step} {p q : Trace} {r : ℕ} → Did step p q r → is_try step ≡ false →
    flags_tried q ≡ flags_tried p
same_tries d e = same_made is_try d e

-- ---- parts of a call

-- a hand that is empty has no slot
pub nobody : {A : Type 0} (hand : Option ℕ) (slot : ℕ) → hand ≡ None → hand ≡ Some slot → A
nobody hand slot e f = absurd (cc)

pub free_on : (p q r : PassView) → HasFree p q → HasFree q r → HasFree p r
free_on p q r a b s h = b s (h.0, λ m. a s (m, h.1))

pub keeps_refl : (p : PassView) → KeepsSlots p p
keeps_refl p =
    record { free = λ s h. h.1 h.0; stamped = λ s u. u; turn = λ all turn. turn; aside = aside_refl p }

pub slots_kept_on : (p q r : PassView) → KeepsSlots p q → KeepsSlots q r → KeepsSlots p r
slots_kept_on p q r a b =
    record {
      free = free_on p q r a.free b.free;
      stamped = λ s u. a.stamped s (b.stamped s u);
      turn = λ all turn. b.turn (λ s u. all s (a.stamped s u)) (a.turn all turn);
      aside = aside_on p q r a.aside b.aside;
    }

-- what doesn't give the pass a slot that it may give birth in leaves it what it could take
pub free_pool : (p q : PassView) → KeepsPool p q →
    ((s : ℕ) → MayBear ((knows q.trace).own s) → MayBear ((knows p.trace).own s)) → HasFree p q
free_pool p q pool may s h =
    subst (λ (x : List ℕ × Option ℕ). Contains x.0 s ⊎ (x.1 ≡ Some s)) (λ i. (sym pool.0 i, sym pool.1 i))
    (h.1 (may s h.0))

-- and so does what teaches nothing of slots
pub keeps_known : (p q : PassView) → KeepsPool p q → GoesInTurn p.trace q.trace →
    ((s : ℕ) → (knows q.trace).own s ≡ (knows p.trace).own s) →
    ((s : ℕ) → births_in s q.trace ≡ births_in s p.trace) → KeepsSlots p q
keeps_known p q pool turn same births =
    record {
      free = free_pool p q pool (λ s m. subst MayBear (same s) m);
      stamped = λ s u. subst IsUnlinked (same s) u;
      turn = turn;
      aside = λ s a. record { known = same s; outside = pool_aside p q pool s a.1; births = births s };
    }

-- ---- the own pool, and the shared one

pub grows_same : (p q : PassView) → q.pool ≡ p.pool → PoolGrows p q
grows_same p q same = ([], same ∙ sym (append-nil p.pool))

pub grows_on : (p q r : PassView) → PoolGrows p q → PoolGrows q r → PoolGrows p r
grows_on p q r a b = (a.0 ++ b.0, b.1 ∙ ap (λ (l : List ℕ). l ++ b.0) a.1 ∙ append_assoc p.pool a.0 b.0)

-- a pool with slots keeps some
pub some_grown : (p q : PassView) → PoolGrows p q → p.pool ≢ [] → q.pool ≢ []
some_grown p q g some none = some (first p.pool g.0 (sym g.1 ∙ none))
  where
    first : (xs ys : List ℕ) → xs ++ ys ≡ [] → xs ≡ []
    first [] ys e = refl
    first (x ∷ xs) ys e = absurd (cc)

pub longer : (p q : PassView) → PoolGrows p q → length p.pool ≤ length q.pool
longer p q g =
    let e : length q.pool ≡ length p.pool + length g.0 = ap length g.1 ∙ length-append p.pool g.0 in omega arith

pub shared_on : (p q r : PassView) (left : ℕ) → SharesWhereFull left p q → length q.pool ≤ length r.pool →
    SharesWhereFull left q r → SharesWhereFull left p r
shared_on p q r left (inl a) low (inl b) = inl (b ∙ a)
shared_on p q r left (inl a) low (inr full) = inr full
shared_on p q r left (inr full) low b = inr (omega arith)

-- with one more place left
pub shares_more : (p q : PassView) → SharesWhereFull 1 p q → SharesWhereFull 2 p q
shares_more p q (inl same) = inl same
shares_more p q (inr full) = inr (omega arith)

-- where a slot was taken after it
pub shared_taken : (p q r : PassView) → SharesWhereFull 1 p q → length q.pool ≤ length r.pool + 1 →
    SharesWhereFull 2 q r → SharesWhereFull 2 p r
shared_taken p q r (inl a) low (inl b) = inl (b ∙ a)
shared_taken p q r (inl a) low (inr full) = inr full
shared_taken p q r (inr full) low b = inr (omega arith)

-- ---- what advances no epoch

pub none_refl : (p : PassView) → TakesNoSlot p p
none_refl p = record {
  count = refl;
  kept = keeps_refl p;
  grows = grows_same p p refl;
  shared = inl refl;
  tries = refl;
  wins = wins_none_refl p.trace;
}

pub none_on : {p q r : PassView} → TakesNoSlot p q → TakesNoSlot q r → TakesNoSlot p r
none_on {p} {q} {r} a b = record {
  count = b.count ∙ a.count;
  kept = slots_kept_on p q r a.kept b.kept;
  grows = grows_on p q r a.grows b.grows;
  shared = shared_on p q r 1 a.shared (longer q r b.grows) b.shared;
  tries = b.tries ∙ a.tries;
  wins = wins_none_on a.wins b.wins;
}

pub none_known : {p q : PassView} → advances q.trace ≡ advances p.trace → flags_raised q.trace ≡ flags_raised p.trace →
    TriesNoFlag p q → WinsNoFlag p.trace q.trace → KeepsPool p q → GoesInTurn p.trace q.trace →
    knows q.trace ≡ knows p.trace → ((s : ℕ) → births_in s q.trace ≡ births_in s p.trace) → TakesNoSlot p q
none_known {p} {q} same flags tries wins pool turn known births = record {
  count = same;
  kept = keeps_known p q pool turn (λ s. ap (λ (k : Know). k.own s) known) births;
  grows = grows_same p q pool.0;
  shared = inl flags;
  tries = tries;
  wins = wins;
}

-- a slot that is given back
pub none_back : (p q : PassView) (slot : ℕ) → q.trace ≡ p.trace → q.pool ≡ p.pool ++ slot ∷ [] → KeepsSlots p q →
    TakesNoSlot p q
none_back p q slot same pool kept =
    record {
      count = ap (λ (t : Trace). advances t) same;
      kept = kept;
      grows = (slot ∷ [], pool);
      shared = inl (ap (λ (t : Trace). flags_raised t) same);
      tries = ap (λ (t : Trace). flags_tried t) same;
      wins = subst (WinsNoFlag p.trace) (sym same) (wins_none_refl p.trace);
    }

no_advance : (step : Step) → advances_or_gives step ≡ false → is_advance step ≡ false
no_advance (Advance from) e = e
no_advance _ e = refl

no_raise : (step : Step) → advances_or_gives step ≡ false → is_raise step ≡ false
no_raise (Raise s) e = e
no_raise _ e = refl

no_try : (step : Step) → advances_or_gives step ≡ false → is_try step ≡ false
no_try (TakeFlag s) e = e
no_try _ e = refl

-- ---- what is known of a slot once a step is made was known of it before

module _ (P : Option Holding → Type 0) where
  -- the slot at which a function was changed, or another one
  before_put : (own : ℕ → Option Holding) (slot : ℕ) (holding : Option Holding) (s : ℕ) → (P holding → P (own slot)) →
      P (put own slot holding s) → P (own s)
  before_put own slot holding s here x =
      ⊎_elim (λ (is : s ≡ slot). go is) (λ (other : s ≢ slot). subst P (put_other own slot holding s other) x)
      (cases_eq s slot)
    where
      go : s ≡ slot → P (own s)
      go is = subst (λ (t : ℕ). P (own t)) (sym is)
          (here (subst P (ap (put own slot holding) is ∙ put_here own slot holding) x))

  before_either : (b : Bool) (x y know : Know) (s : ℕ) → (P (x.own s) → P (know.own s)) →
      (P (y.own s) → P (know.own s)) → P ((cond b x y).own s) → P (know.own s)
  before_either true x y know s f g h = f h
  before_either false x y know s f g h = g h

-- of a predicate that asks whether a slot is in hand or unlinked, and of what is in hand, or of an unlinked slot,
-- nothing more
module _ (P : Option Holding → Type 0) (nothing : P None → ⊥)
    (in_hand : (a b : Unpublished) → P (Some (InHand a)) → P (Some (InHand b)))
    (unlinked : (a b : Bool) → P (Some (Unlinked a)) → P (Some (Unlinked b))) where
  before_reread : (holding : Option Holding) → P (reread holding) → P holding
  before_reread (Some (Unlinked seen)) x = unlinked true seen x
  before_reread holding x = x

  before_keyed : (holding : Option Holding) (key : ℕ) → P (with_key holding key) → P holding
  before_keyed (Some (InHand known)) key x = in_hand _ known x
  before_keyed holding key x = x

  before_valued : (holding : Option Holding) (value : ℕ) → P (with_value holding value) → P holding
  before_valued (Some (InHand known)) value x = in_hand _ known x
  before_valued holding value x = x

  before_linked : (holding : Option Holding) (link : Link) → P (with_link holding link) → P holding
  before_linked (Some (InHand known)) link x = in_hand _ known x
  before_linked holding link x = x

  -- a step that gives the pass no slot
  before_step : (step : Step) (found stamp : ℕ) (know : Know) (s : ℕ) → advances_or_gives step ≡ false →
      P ((learn step found stamp know).own s) → P (know.own s)
  before_step ReadEpoch found stamp know s e x =
      before_either P (found == know.epoch) _ _ know s (before_reread (know.own s)) (before_reread (know.own s)) x
  before_step (StoreStamp t new) found stamp know s e x = absurd (cc)
  before_step (Raise t) found stamp know s e x = absurd (cc)
  before_step (TakeFlag t) found stamp know s e x = absurd (cc)
  before_step (StoreBirth t birth) found stamp know s e x = absurd (cc)
  before_step (StoreKey t key) found stamp know s e x =
      before_put P know.own t (with_key (know.own t) key) s (before_keyed (know.own t) key) x
  before_step (StoreValue t value) found stamp know s e x =
      before_put P know.own t (with_value (know.own t) value) s (before_valued (know.own t) value) x
  before_step (StoreLink t next) found stamp know s e x = before_put P know.own t _ s (before_linked (know.own t) _) x
  before_step (Publish pred expected t) found stamp know s e x =
      before_either P (found == expected) _ know know s (before_put P know.own t None s (λ n. absurd (nothing n)))
      (λ h. h) x
  before_step (Mark t expected) found stamp know s e x =
      before_either P (found == expected) _ know know s (λ h. h) (λ h. h) x
  before_step (Replace v expected t) found stamp know s e x =
      before_either P (found == expected) _ know know s (before_put P know.own t None s (λ n. absurd (nothing n)))
      (λ h. h) x
  before_step (Unlink pred expected t) found stamp know s e x = absurd (cc)
  before_step _ found stamp know s e x = x

may_before : (step : Step) (found stamp : ℕ) (know : Know) (s : ℕ) → advances_or_gives step ≡ false →
    MayBear ((learn step found stamp know).own s) → MayBear (know.own s)
may_before = before_step MayBear (λ m. m) (λ a b m. m) (λ a b m. m)

unlinked_before : (step : Step) (found stamp : ℕ) (know : Know) (s : ℕ) → is_unlink step ≡ false →
    IsUnlinked ((learn step found stamp know).own s) → IsUnlinked (know.own s)
unlinked_before (Advance from) found stamp know s e u = u
unlinked_before (StoreStamp t new) found stamp know s e u =
    before_put IsUnlinked know.own t (Some (Free new)) s (λ x. absurd x) u
unlinked_before (Raise t) found stamp know s e u = before_put IsUnlinked know.own t None s (λ x. absurd x) u
unlinked_before (TakeFlag t) found stamp know s e u =
    before_either IsUnlinked (has_flag found t) _ know know s
    (before_put IsUnlinked know.own t (Some (Free stamp)) s (λ x. absurd x)) (λ x. x) u
unlinked_before (StoreBirth t birth) found stamp know s e u = before_put IsUnlinked know.own t _ s (λ x. absurd x) u
unlinked_before (Unlink pred expected t) found stamp know s e u = absurd (cc)
unlinked_before step found stamp know s e u =
    before_step IsUnlinked (λ m. m) (λ a b m. m) (λ a b m. m) step found stamp know s refl u

-- no other step leaves a slot to be stamped
pub did_stamps : {step : Step} {p q : Trace} {r : ℕ} → Did step p q r → is_unlink step ≡ false → StampsUnlinked p q
did_stamps {step} {p} {q} {r} d e s u =
    unlinked_before step r _ (knows p) s e (subst (λ (k : Know). IsUnlinked (k.own s)) d.know u)

no_unlink : (step : Step) → advances_or_gives step ≡ false → is_unlink step ≡ false
no_unlink (Unlink pred expected s) e = e
no_unlink _ e = refl

-- one such step, where the pool stays and has what the pass could take, or the hand has it
pub did_free : {step : Step} {p q : PassView} {r : ℕ} → Did step p.trace q.trace r → advances_or_gives step ≡ false →
    q.pool ≡ p.pool → HasFree p q → KeepsAside p q → TakesNoSlot p q
did_free {step} {p} {q} d e pool free aside = record {
  count = same_advances d (no_advance step e);
  kept = record { free = free; stamped = did_stamps d (no_unlink step e); turn = did_turn d; aside = aside };
  grows = grows_same p q pool;
  shared = inl (same_flags d (no_raise step e));
  tries = same_tries d (no_try step e);
  wins = wins_none d (no_try step e) (no_raise step e);
}

-- and where the hand stays too, and the step handles no slot that is put aside
pub did_none : {step : Step} {p q : PassView} {r : ℕ} → Did step p.trace q.trace r → advances_or_gives step ≡ false →
    HasHandled p (handled step) → KeepsPool p q → TakesNoSlot p q
did_none {step} {p} {q} {r} d e has pool =
    did_free d e pool.0
    (free_pool p q pool
    (λ s m. may_before step r _ (knows p.trace) s e (subst (λ (k : Know). MayBear (k.own s)) d.know m)))
    (keeps_aside d has (pool_aside p q pool))

-- a step that gives the pass a slot, which is then kept in its pool
module _ {step : Step} {p q r : PassView} {slot n : ℕ} (d : Did step p.trace q.trace n)
    (still : is_advance step ≡ false) (dark : is_raise step ≡ false) (left : is_unlink step ≡ false)
    (is_handled : handled step ≡ Some slot) (new : ¬ (IsInHand ((knows p.trace).own slot)))
    (others : (s : ℕ) → s ≢ slot → MayBear ((knows q.trace).own s) → MayBear ((knows p.trace).own s))
    (stays : KeepsPool p q) (same : r.trace ≡ q.trace) (pool : r.pool ≡ q.pool ++ slot ∷ [])
    (hand : r.hand ≡ hand_without slot q.hand) where
  now_pool : r.pool ≡ p.pool ++ slot ∷ []
  now_pool = pool ∙ ap (λ (l : List ℕ). l ++ slot ∷ []) stays.0

  stays_here : (s : ℕ) → s ≢ slot → HasSlot p s → HasSlot r s
  stays_here s other (inl c) =
      inl (subst (λ (l : List ℕ). Contains l s) (sym now_pool) (Contains-append_left p.pool (slot ∷ []) s c))
  stays_here s other (inr h) =
      inr (hand ∙ ap (hand_without slot) (stays.1 ∙ h) ∙ ap (λ (b : Bool). cond b None (Some s)) (ne_eqb s slot other))

  -- a slot that is put aside is another one, and stays outside
  aside_other : (s : ℕ) → IsInHand ((knows p.trace).own s) → s ≢ slot
  aside_other s held is = new (subst (λ (t : ℕ). IsInHand ((knows p.trace).own t)) is held)

  was_here : (s : ℕ) → s ≢ slot → HasSlot r s → HasSlot p s
  was_here s other (inl c) =
      ⊎_elim (λ before. inl before) (λ (is : slot ≡ s). absurd (other (sym is)))
      (Contains-push_cases p.pool slot s (subst (λ (l : List ℕ). Contains l s) now_pool c))
  was_here s other (inr h) = inr (sym stays.1 ∙ hand_was slot s q.hand (sym hand ∙ h))

  given_aside : KeepsAside p r
  given_aside s a =
      let other = aside_other s a.0 in
      stays_seen p (record r { trace = q.trace }) r same refl refl
      (did_aside d s a.0 (λ e. other (sym (same_slot (sym is_handled ∙ e)))) (λ has. a.1 (was_here s other has)))

  pub given_count : advances r.trace ≡ advances p.trace
  given_count = ap (λ (t : Trace). advances t) same ∙ same_advances d still

  pub given_kept : KeepsSlots p r
  given_kept = record {
    free = λ s h.
        ⊎_elim (λ (is : s ≡ slot).
        inl (subst (λ (l : List ℕ). Contains l s) (sym now_pool)
        (Contains-append_right p.pool (slot ∷ []) s (0, omega arith, sym is))))
        (λ (other : s ≢ slot).
        stays_here s other (h.1 (others s other (subst (λ (t : Trace). MayBear ((knows t).own s)) same h.0))))
        (cases_eq s slot);
    stamped = λ s u. did_stamps d left s (subst (λ (t : Trace). IsUnlinked ((knows t).own s)) same u);
    turn = subst (λ (t : Trace). GoesInTurn p.trace t) (sym same) (did_turn d);
    aside = given_aside;
  }

  pub given_grows : PoolGrows p r
  given_grows = (slot ∷ [], now_pool)

  pub given_shared : SharesWhereFull 1 p r
  given_shared = inl (ap (λ (t : Trace). flags_raised t) same ∙ same_flags d dark)

  -- where it took no flag
  pub none_given : is_try step ≡ false → TakesNoSlot p r
  none_given other =
      record {
        count = given_count;
        kept = given_kept;
        grows = given_grows;
        shared = given_shared;
        tries = ap (λ (t : Trace). flags_tried t) same ∙ same_tries d other;
        wins = subst (WinsNoFlag p.trace) (sym same) (wins_none d other dark);
      }

-- steps before the one that would advance the epoch
pub once_after : {p q r : PassView} → Quiet p.trace q.trace → advances q.trace ≡ advances p.trace → HasFree p q →
    AdvancesOnce q r → AdvancesOnce p r
once_after {p} {q} {r} a still free b =
    let all = subst
    (λ (x : Start × ℕ).
    (s : ℕ) → CouldTake q (know_after x.0 b.moment x.1) s → b.epoch ≤ stamp_in ((know_after x.0 b.moment x.1).own s))
    (λ i. (a.same.start i, a.same.who i)) b.stamps in
    record {
      count = b.count ∙ ap (λ (n : ℕ). n + 1) still;
      moment = b.moment;
      is = moment_after a.seen b.is;
      epoch = b.epoch;
      last_read = (λ i. (know_after (sym a.same.start i) b.moment (sym a.same.who i)).epoch) ∙ b.last_read;
      advance = subst (λ (who : ℕ). Begins (b.moment ++ event_of who (Advance b.epoch) ∷ []) r.trace.seen) a.same.who
          b.advance;
      stamps = λ s h. all s (h.0, λ m. free s (m, h.1));
      needed = subst (λ (x : Start × ℕ). NeedsAdvance (know_after x.0 b.moment x.1) b.epoch)
          (λ i. (a.same.start i, a.same.who i)) b.needed;
    }

-- and after it
pub once_before : {p q r : PassView} → AdvancesOnce p q → Begins q.trace.seen r.trace.seen →
    (IsRun q.trace.start q.trace.passes q.trace.seen → IsRun r.trace.start r.trace.passes r.trace.seen) →
    advances r.trace ≡ advances q.trace → AdvancesOnce p r
once_before {p} {q} {r} a seen run same = record {
  count = same ∙ a.count;
  moment = a.moment;
  is = record {
    from = a.is.from;
    to = begins_trans a.moment q.trace.seen r.trace.seen a.is.to seen;
    is_run = run a.is.is_run;
  };
  epoch = a.epoch;
  last_read = a.last_read;
  advance = begins_trans _ q.trace.seen r.trace.seen a.advance seen;
  stamps = a.stamps;
  needed = a.needed;
}

-- the one step itself
pub once : {p q : PassView} {from r : ℕ} → Did (Advance from) p.trace q.trace r → (knows p.trace).epoch ≡ from →
    ((s : ℕ) → HasSlot p s → from ≤ stamp_in ((knows p.trace).own s)) → NeedsAdvance (knows p.trace) from →
    AdvancesOnce p q
once {p} {q} {from} d last stamps need =
    let left = others_leave_know p.trace.start p.trace.seen d.rest p.trace.who d.none in
    record {
      count = did_advances d;
      moment = p.trace.seen ++ d.rest;
      is = did_moment d;
      epoch = from;
      last_read = ap (λ (k : Know). k.epoch) left ∙ last;
      advance = ([], d.seen ∙ sym (append-nil ((p.trace.seen ++ d.rest) ++ event_of p.trace.who (Advance from) ∷ [])));
      stamps = subst (λ (k : Know). (s : ℕ) → CouldTake p k s → from ≤ stamp_in (k.own s)) (sym left)
          (λ s h. stamps s (h.1 h.0));
      needed = subst (λ (k : Know). NeedsAdvance k from) (sym left) need;
    }

-- steps before and after a part that advances the epoch where it has to
pub needed_since : {p q r : PassView} → Quiet p.trace q.trace → advances q.trace ≡ advances p.trace → HasFree p q →
    AdvancesWhereNeeded q r → AdvancesWhereNeeded p r
needed_since a still free (inl more) = inl (more ∙ still)
needed_since {p} {q} {r} a still free (inr o) = inr (once_after {p = p} {q = q} {r = r} a still free o)

pub needed_after : {p q r : PassView} → Quiet p.trace q.trace → TakesNoSlot p q → AdvancesWhereNeeded q r →
    AdvancesWhereNeeded p r
needed_after {p} {q} {r} a none needed = needed_since {p = p} {q = q} {r = r} a none.count none.kept.free needed

pub needed_before : {p q r : PassView} → AdvancesWhereNeeded p q → Begins q.trace.seen r.trace.seen →
    (IsRun q.trace.start q.trace.passes q.trace.seen → IsRun r.trace.start r.trace.passes r.trace.seen) →
    advances r.trace ≡ advances q.trace → AdvancesWhereNeeded p r
needed_before (inl none) seen run same = inl (same ∙ none)
needed_before {p} {q} {r} (inr o) seen run same = inr (once_before {p = p} {q = q} {r = r} o seen run same)
