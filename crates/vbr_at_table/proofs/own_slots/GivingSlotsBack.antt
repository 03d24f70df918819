-- The own pool goes into the shared one, slot by slot.
use Rattle.std.proofs.Common.{◌≡◌, ◌≢◌, ℕ, zero, suc, ◌+◌, ◌<◌, ◌≤◌, ◌==◌, Bool, true, false, not, cond, List, []}
use Rattle.std.proofs.Common.{◌∷◌, ◌++◌, length, get_or, Option, Some, None, refl, sym, ap, ◌∙◌, subst, append-nil, inl}
use Rattle.std.proofs.Common.{inr}
use Rattle.std.proofs.Common.{⊎_elim, eq-eqb, arith}
use Rattle.std.specs.Prelude.{All, AllPairs, Contains, filter, ◌⊎◌}
use Rattle.std.proofs.lemmas.Bool.{ne_eqb}
use Rattle.std.proofs.lemmas.List.Elements.{All-head, All-tail, Contains-get_or}
use mathlib.Core.Logic.{dite}
use native.Mathlib.Decide.{ℕ_discrete}
use Rattle.vbr_machine.specs.Acceptance.{MayBear}
use Rattle.vbr_machine.specs.Knowledge.{Know}
use Rattle.vbr_machine.specs.Machine.{World}
use Rattle.vbr_machine.specs.Put.{put}
use Rattle.vbr_machine.specs.Runs.{Begins, world_after}
use Rattle.vbr_machine.specs.Start.{Start}
use Rattle.vbr_machine.specs.declared.event.Step.TheVariants.{Raise}
use Rattle.vbr_machine.specs.declared.knowledge.SlotPlace.TheVariants.{Shared}
use Rattle.vbr_machine.proofs.Lemmas.{begins_trans, put_here, put_other, world_after-snoc}
use Rattle.vbr_slots.specs.steps.Calls.{Quiet, Took}
use Rattle.vbr_slots.specs.steps.PassLaw.{PassLaw}
use Rattle.vbr_slots.specs.pools.Pools.{HandFits, hand_without, without}
use Rattle.vbr_slots.specs.views.Views.{Did, PassView, Trace, event_of, knows}
use Rattle.vbr_slots.proofs.Lemmas.{did_moment, did_quiet, did_took, hand_stays, moment_after, moment_before, quiet_on}
use Rattle.vbr_slots.proofs.Lemmas.{took_on}
use Rattle.vbr_at_table.specs.costs.FlagsInNeed.{times_beyond}
use Rattle.vbr_at_table.specs.costs.StepKinds.{ChangesNone, advances, flags_raised, is_raise}
use Rattle.vbr_at_table.specs.pools.GivingSlotsBack.{WasRaised}
use Rattle.vbr_at_table.specs.hands.KeptSlots.{HasFree, HasSlot, KeepsSlots}
use Rattle.vbr_at_table.proofs.steps.StepCounts.{did_made}
use Rattle.vbr_at_table.proofs.own_slots.SlotsAside.{keeps_aside}
use Rattle.vbr_at_table.proofs.own_slots.PoolLists.{left_in}
use Rattle.vbr_at_table.proofs.epochs.Advancing.{did_stamps, same_advances, slots_kept_on}
use Rattle.vbr_at_table.proofs.flags.FlagsInNeed.{raised_beyond, raised_of_two}
use Rattle.vbr_at_table.proofs.returns.InTurn.{did_turn}
use Rattle.vbr_at_table.proofs.steps.Unchanged.{raise_unchanged, unchanged_on}

-- ---- lists

-- what passes a test is among what passes
contains_kept : (f : ℕ → Bool) (xs : List ℕ) (s : ℕ) → f s ≡ true → Contains xs s → Contains (filter f xs) s
contains_kept f [] s is_so (k, low, is) = absurd (omega (arith, low))
contains_kept f (x ∷ xs) s is_so (zero, low, is) =
    subst (λ ys. Contains ys s) (sym (ap (λ b. cond b (x ∷ filter f xs) (filter f xs)) (ap f is ∙ is_so)))
    (0, omega arith, is)
contains_kept f (x ∷ xs) s is_so (suc k, low, is) =
    shifted (contains_kept f xs s is_so (k, omega (arith, low), is)) (f x)
  where
    shifted : Contains (filter f xs) s → (b : Bool) → Contains (cond b (x ∷ filter f xs) (filter f xs)) s
    shifted c true = (suc c.0, omega (arith, c.1), c.2)
    shifted c false = c

-- where all pass, all are kept
all_kept : (f : ℕ → Bool) (xs : List ℕ) → All (λ s. f s ≡ true) xs → xs ≡ filter f xs
all_kept f [] all = refl
all_kept f (x ∷ xs) all = ap (λ ys. x ∷ ys) (all_kept f xs (All-tail (λ s. f s ≡ true) x xs all))
    ∙ sym (ap (λ b. cond b (x ∷ filter f xs) (filter f xs)) (All-head (λ s. f s ≡ true) x xs all))

-- a slot that isn't there doesn't leave
absent : (slot : ℕ) (xs : List ℕ) → ¬ (Contains xs slot) → without slot xs ≡ xs
absent slot xs out =
    sym (all_kept (λ s. not (s == slot)) xs
    (λ k d low. ap not (ne_eqb (get_or xs k d) slot (λ is. out (subst (Contains xs) is (Contains-get_or xs k d low))))))

head_apart : (x : ℕ) (xs : List ℕ) → AllPairs ◌≢◌ (x ∷ xs) → ¬ (Contains xs x)
head_apart x xs apart c = apart 0 (suc c.0) x (omega arith) (omega (arith, c.1)) (sym c.2)

tail_apart : (x : ℕ) (xs : List ℕ) → AllPairs ◌≢◌ (x ∷ xs) → AllPairs ◌≢◌ xs
tail_apart x xs apart = λ i j d less low. apart (suc i) (suc j) d (omega (arith, less)) (omega (arith, low))

-- one that is there leaves one fewer
one_fewer : (slot : ℕ) (xs : List ℕ) → AllPairs ◌≢◌ xs → Contains xs slot → length (without slot xs) + 1 ≡ length xs
one_fewer slot [] apart c = absurd (omega (arith, c.1))
one_fewer slot (x ∷ xs) apart (zero, low, is) =
    let gone : length (without slot (x ∷ xs)) ≡ length (without slot xs) =
    ap (λ b. length (cond (not b) (x ∷ without slot xs) (without slot xs))) (eq-eqb x slot is) in
    let same : length (without slot xs) ≡ length xs =
    ap length (absent slot xs (subst (λ s. ¬ (Contains xs s)) is (head_apart x xs apart))) in
    omega (arith, gone, same)
one_fewer slot (x ∷ xs) apart (suc k, low, is) =
    let there : Contains xs slot = (k, omega (arith, low), is) in
    let kept : length (without slot (x ∷ xs)) ≡ length (x ∷ without slot xs) =
    ap (λ b. length (cond (not b) (x ∷ without slot xs) (without slot xs)))
    (ne_eqb x slot (λ same. head_apart x xs apart (subst (Contains xs) (sym same) there))) in
    let rest = one_fewer slot xs (tail_apart x xs apart) there in
    omega (arith, kept, rest)

-- ---- the hand

-- a slot of the own pool isn't in hand
pooled_apart : (start : Start) (know : Know) (slot : ℕ) (pool : List ℕ) (hand : Option ℕ) →
    HandFits start know pool hand → Contains pool slot → hand_without slot hand ≡ hand
pooled_apart start know slot pool None fits there = refl
pooled_apart start know slot pool (Some s) fits there =
    hand_stays slot (Some s) (λ is. let same : s ≡ slot = cc in fits.2 (subst (Contains pool) (sym same) there))

-- ---- so many slots were raised

-- the own pool has a slot left, or none was raised
abbrev SomeLeft : PassView → ℕ → Type 0
SomeLeft q shared = (1 ≤ length q.pool) ⊎ (shared ≡ 0)

pub record Giving (p q : PassView) (shared : ℕ) : Type 0 where
  pub took : Took p.trace q.trace shared
  pub raises : flags_raised q.trace ≡ flags_raised p.trace + shared
  pub count : length q.pool + shared ≡ length p.pool
  pub each : (slot : ℕ) → Contains p.pool slot → Contains q.pool slot ⊎ WasRaised p.trace q.trace slot
  pub hand : q.hand ≡ p.hand
  pub quiet : Quiet p.trace q.trace
  pub kept : KeepsSlots p q
  pub advances : advances q.trace ≡ advances p.trace
  pub unchanged : ChangesNone p.trace q.trace
  pub needed : SomeLeft q shared → times_beyond q.trace ≡ times_beyond p.trace
  pub last : times_beyond q.trace ≤ times_beyond p.trace + 1

-- the moment of a raise
raised_now : {p q : Trace} {slot n : ℕ} → Did (Raise slot) p q n → WasRaised p q slot
raised_now {p} {q} {slot} d =
    let moment = p.seen ++ d.rest in
    let event = event_of p.who (Raise slot) in
    record {
      moment = moment;
      is = did_moment d;
      raised = ([], d.seen ∙ sym (append-nil (moment ++ event ∷ [])));
      shared = ap (λ (w : World). w.place slot) (world_after-snoc p.start moment event)
          ∙ put_here (world_after p.start moment).place slot Shared;
    }

raised_before : {p q r : Trace} {slot : ℕ} → WasRaised p q slot → Quiet q r → WasRaised p r slot
raised_before {p} {q} {r} a b =
    record {
      moment = a.moment;
      is = moment_before a.is b;
      raised = begins_trans _ q.seen r.seen a.raised b.seen;
      shared = a.shared;
    }

raised_after : {p q r : Trace} {slot : ℕ} → Quiet p q → WasRaised q r slot → WasRaised p r slot
raised_after {p} {q} {r} {slot} a b = record {
  moment = b.moment;
  is = moment_after a.seen b.is;
  raised = subst (λ (who : ℕ). Begins (b.moment ++ event_of who (Raise slot) ∷ []) r.seen) a.same.who b.raised;
  shared = subst (λ (x : Start × ℕ). (world_after x.0 (b.moment ++ event_of x.1 (Raise slot) ∷ [])).place slot ≡ Shared)
      (λ i. (a.same.start i, a.same.who i)) b.shared;
}

module _ {p q : PassView} {slot n : ℕ} (law : PassLaw p) (there : Contains p.pool slot)
    (d : Did (Raise slot) p.trace q.trace n) (pool : q.pool ≡ without slot p.pool)
    (hand_left : q.hand ≡ hand_without slot p.hand) where
  hand : q.hand ≡ p.hand
  hand = hand_left ∙ pooled_apart p.trace.start (knows p.trace) slot p.pool p.hand law.own.in_hand there

  -- what it knows of other slots stays
  other_own : (s : ℕ) → s ≢ slot → (knows q.trace).own s ≡ (knows p.trace).own s
  other_own s other = ap (λ (k : Know). k.own s) d.know ∙ put_other (knows p.trace).own slot None s other

  there_still : (s : ℕ) → s ≢ slot → Contains p.pool s → Contains q.pool s
  there_still s other c =
      subst (λ xs. Contains xs s) (sym pool)
      (contains_kept (λ x. not (x == slot)) p.pool s (ap not (ne_eqb s slot other)) c)

  has_still : (s : ℕ) → s ≢ slot → HasSlot p s → HasSlot q s
  has_still s other (inl c) = inl (there_still s other c)
  has_still s other (inr h) = inr (hand ∙ h)

  free : HasFree p q
  free s could = dite (ℕ_discrete s slot)
      (λ (same : s ≡ slot).
      absurd (subst MayBear
      (ap (λ (k : Know). k.own s) d.know ∙ ap (put (knows p.trace).own slot None) same
      ∙ put_here (knows p.trace).own slot None) could.0))
      (λ (other : s ≢ slot). has_still s other (could.1 (subst MayBear (other_own s other) could.0)))

  outside : (s : ℕ) → ¬ (HasSlot p s) → ¬ (HasSlot q s)
  outside s none (inl c) = none (inl (left_in slot p.pool s (subst (λ xs. Contains xs s) pool c)))
  outside s none (inr h) = none (inr (sym hand ∙ h))

  counted : length q.pool + 1 ≡ length p.pool
  counted = ap (λ (xs : List ℕ). length xs + 1) pool ∙ one_fewer slot p.pool law.own.apart there

  in_need : SomeLeft q 1 → times_beyond q.trace ≡ times_beyond p.trace
  in_need (inl more) = (raised_of_two d law.own (let c = counted in omega (arith, c, more))).beyond
  in_need (inr none) = absurd (omega (arith, none))

  pub giving_one : Giving p q 1
  giving_one = record {
    took = did_took d;
    raises = did_made is_raise d;
    count = counted;
    each = λ s has.
        dite (ℕ_discrete s slot) (λ same. inr (subst (WasRaised p.trace q.trace) (sym same) (raised_now d)))
        (λ other. inl (there_still s other has));
    hand = hand;
    quiet = did_quiet d (λ know. refl);
    kept = record {
      free = free;
      stamped = did_stamps d refl;
      turn = did_turn d;
      aside = keeps_aside d (inl there) outside;
    };
    advances = same_advances d refl;
    unchanged = raise_unchanged d;
    needed = in_need;
    last = raised_beyond d;
  }

-- some, and then more
pub giving_on : {p q r : PassView} (n m : ℕ) → Giving p q n → Giving q r m → Giving p r (n + m)
giving_on {p} {q} {r} n m a b = record {
  took = took_on n m a.took b.took;
  raises = let x = a.raises in let y = b.raises in omega (arith, x, y);
  count = let x = a.count in let y = b.count in omega (arith, x, y);
  each = λ s there.
      ⊎_elim (λ here. ⊎_elim (λ still. inl still) (λ later. inr (raised_after a.quiet later)) (b.each s here))
      (λ earlier. inr (raised_before earlier b.quiet)) (a.each s there);
  hand = b.hand ∙ a.hand;
  quiet = quiet_on a.quiet b.quiet;
  kept = slots_kept_on p q r a.kept b.kept;
  advances = b.advances ∙ a.advances;
  unchanged = unchanged_on a.unchanged b.unchanged;
  needed = needed_all;
  last = last_all (one_or_none m refl);
}
  where
    one_or_none : (k : ℕ) → m ≡ k → (m ≡ 0) ⊎ (1 ≤ length q.pool)
    one_or_none zero none = inl none
    one_or_none (suc k) some = inr (let y = b.count in omega (arith, y, some))

    needed_all : SomeLeft r (n + m) → times_beyond r.trace ≡ times_beyond p.trace
    needed_all (inl more) = b.needed (inl more) ∙ a.needed (inl (let y = b.count in omega (arith, y, more)))
    needed_all (inr none) =
        b.needed (inr (let e = none in omega (arith, e))) ∙ a.needed (inr (let e = none in omega (arith, e)))

    last_all : (m ≡ 0) ⊎ (1 ≤ length q.pool) → times_beyond r.trace ≤ times_beyond p.trace + 1
    last_all (inl none) = let same = b.needed (inr none) in let low = a.last in omega (arith, same, low)
    last_all (inr some) = let same = a.needed (inl some) in let low = b.last in omega (arith, same, low)

-- while fewer were raised than the pool had, its oldest slot is there
pub oldest_there : {p q : PassView} {raised : ℕ} {before now : List ℕ} (d : ℕ) → Giving p q raised → before ≡ p.pool →
    now ≡ q.pool → raised < length before → Contains q.pool (get_or now 0 d)
oldest_there {p} {q} {raised} {before} {now} d a was is few =
    let low : 0 < length now =
    (let c = a.count in let x = ap length was in let y = ap length is in omega (arith, c, x, y, few)) in
    subst (λ xs. Contains xs (get_or now 0 d)) is (Contains-get_or now 0 d low)
