-- Slots come out of the shared pool into the own one, probed in their order.
use Rattle.std.proofs.Common.{◌≡◌, ◌≢◌, ℕ, ◌+◌, ◌-◌, ◌/◌, ◌<◌, ◌≤◌, Bool, true, false, cond, [], ◌∷◌, ◌++◌, length}
use Rattle.std.proofs.Common.{◌*◌, Option, Some, None, length-append, List, refl, sym, ap, ◌∙◌, subst, append-nil}
use Rattle.std.proofs.Common.{inl, inr, ⊎_elim, arith}
use Rattle.std.specs.Prelude.{Contains, ◌⊎◌}
use Rattle.std.proofs.lemmas.Bool.{cases_lt, cases_order, true≢false}
use Rattle.std.proofs.lemmas.List.Elements.{Contains-append_left, Contains-push, Contains-push_cases}
use mathlib.Core.Logic.{dite}
use native.Mathlib.Decide.{ℕ_discrete}
use Rattle.vbr_words.specs.Flags.{flag_words, has_flag, word_of_flag}
use Rattle.vbr_machine.specs.Acceptance.{IsFree, IsInHand, MayBear}
use Rattle.vbr_machine.specs.Knowledge.{Know}
use Rattle.vbr_machine.specs.Machine.{found}
use Rattle.vbr_machine.specs.Runs.{Begins, world_after}
use Rattle.vbr_machine.specs.Start.{Start, IsStart}
use Rattle.vbr_machine.specs.declared.event.Step.TheVariants.{TakeFlag}
use Rattle.vbr_machine.specs.declared.knowledge.SlotPlace.TheVariants.{Shared}
use Rattle.vbr_machine.proofs.Lemmas.{begins_trans, flag_shared, flag_won, put_here, put_other}
use Rattle.vbr_slots.specs.steps.Calls.{Quiet, Took}
use Rattle.vbr_slots.specs.pools.Pools.{OwnPool, hand_without}
use Rattle.vbr_slots.specs.views.Views.{Did, KeepsPool, PassView, Trace, event_of, knows}
use Rattle.vbr_slots.proofs.Lemmas.{did_moment, did_quiet, did_took, hand_alone, hand_stays, moment_after}
use Rattle.vbr_slots.proofs.Lemmas.{moment_before, quiet_on, taken_new, took_on}
use Rattle.vbr_at_table.specs.costs.FlagsInNeed.{flags_won, times_beyond}
use Rattle.vbr_at_table.specs.costs.StepKinds.{advances, bears_in, flags_raised, flags_tried, is_try}
use Rattle.vbr_at_table.specs.hands.KeptSlots.{GoesInTurn, HasFree, HasSlot, KeepsAside, StampsUnlinked}
use Rattle.vbr_at_table.specs.pools.Reserving.{IsNextToTry, IsMissed, Reserves, ReservesFrom, TakesFlags, WasTaken}
use Rattle.vbr_at_table.specs.pools.Reserving.{may_be_set, most_kept}
use Rattle.vbr_at_table.specs.pools.SharedPool.{WasOutside}
use Rattle.vbr_at_table.proofs.steps.StepCounts.{did_made, same_made}
use Rattle.vbr_at_table.proofs.own_slots.SlotsAside.{did_aside, same_slot, stays_seen}
use Rattle.vbr_at_table.proofs.epochs.Advancing.{did_stamps, grows_on, grows_same, keeps_known, longer}
use Rattle.vbr_at_table.proofs.epochs.Advancing.{same_advances, same_flags, slots_kept_on}
use Rattle.vbr_at_table.proofs.flags.FlagsInNeed.{lost_wins_none, won_beyond, won_one}
use Rattle.vbr_at_table.proofs.flags.Gained.{gained_sum}
use Rattle.vbr_at_table.proofs.returns.InTurn.{did_turn}
use Rattle.vbr_at_table.proofs.flags.ReservedTries.{AreCounted, counted_lost, counted_won}
use Rattle.vbr_at_table.proofs.reads.Shown.{flag_shown, in_pool, missed, missed_after, missed_before}

-- ---- what is taken, from step to step

taken_before : {p q r : Trace} {slot : ℕ} → WasTaken p q slot → Quiet q r → WasTaken p r slot
taken_before {p} {q} {r} a b =
    record {
      moment = a.moment;
      is = moment_before a.is b;
      shared = a.shared;
      taken = begins_trans _ q.seen r.seen a.taken b.seen;
    }

taken_after : {p q r : Trace} {slot : ℕ} → Quiet p q → WasTaken q r slot → WasTaken p r slot
taken_after {p} {q} {r} {slot} a b = record {
  moment = b.moment;
  is = moment_after a.seen b.is;
  shared = subst (λ (start : Start). (world_after start b.moment).place slot ≡ Shared) a.same.start b.shared;
  taken = subst (λ (who : ℕ). Begins (b.moment ++ event_of who (TakeFlag slot) ∷ []) r.seen) a.same.who b.taken;
}

pub takes_on : {p q r : PassView} (n m : ℕ) → TakesFlags p q n → TakesFlags q r m → TakesFlags p r (n + m)
takes_on {p} {q} {r} n m a b = record {
  took = took_on n m a.took b.took;
  tries = let x = a.tries in let y = b.tries in omega (arith, x, y);
  grows = grows_on p q r a.grows b.grows;
  each = λ s there.
      ⊎_elim (λ earlier. ⊎_elim (λ first. inl first) (λ taken. inr (taken_before taken b.quiet)) (a.each s earlier))
      (λ later. inr (taken_after a.quiet later)) (b.each s there);
  hand = b.hand ∙ a.hand;
  quiet = quiet_on a.quiet b.quiet;
  kept = slots_kept_on p q r a.kept b.kept;
  raised = b.raised ∙ a.raised;
  won = (let x = a.won in let y = b.won in omega (arith, x, y));
  beyond = (let x = a.beyond in let y = b.beyond in omega (arith, x, y));
  advances = b.advances ∙ a.advances;
}

-- a flag was lost
pub takes_lost : {p q : PassView} {slot n : ℕ} → Did (TakeFlag slot) p.trace q.trace n → has_flag n slot ≡ false →
    KeepsPool p q → TakesFlags p q 1
takes_lost {p} {q} {slot} {n} d lost keeps =
    let lost_flag : (a b : Know) → cond (has_flag n slot) a b ≡ b = λ a b. ap (λ (t : Bool). cond t a b) lost in
    let know : knows q.trace ≡ knows p.trace = d.know ∙ lost_flag _ (knows p.trace) in
    record {
      took = did_took d;
      tries = did_made is_try d;
      grows = grows_same p q keeps.0;
      each = λ s there. inl (subst (λ xs. Contains xs s) keeps.0 there);
      hand = keeps.1;
      quiet = did_quiet d (λ know. refl);
      kept = keeps_known p q keeps (did_turn d) (λ s. ap (λ (k : Know). k.own s) know)
          (λ s. same_made (bears_in s) d refl);
      raised = same_flags d refl;
      won = (let none = lost_wins_none d lost in
          let w = none.won in
          let same = ap length keeps.0 in
          omega (arith, w, same));
      beyond = (let none = lost_wins_none d lost in
          let w = none.won in
          let b = none.beyond in
          omega (arith, w, b));
      advances = same_advances d refl;
    }

-- a slot whose flag was won isn't in hand
pub won_apart : {start : Start} (p : PassView) {q : PassView} {slot n : ℕ} → Did (TakeFlag slot) p.trace q.trace n →
    has_flag n slot ≡ true → OwnPool start (knows q.trace) q.pool q.hand → hand_without slot q.hand ≡ q.hand
won_apart {start} p {q} {slot} {n} d won own =
    let won_flag : (a b : Know) → cond (has_flag n slot) a b ≡ a = λ a b. ap (λ (t : Bool). cond t a b) won in
    let now = ap (λ (k : Know). k.own slot) (d.know ∙ won_flag _ (knows p.trace))
    ∙ put_here (knows p.trace).own slot _ in
    hand_stays slot q.hand
    (λ is. (hand_alone start (knows q.trace) slot q.pool q.hand own is).0 (subst IsFree (sym now) tt))

-- a flag was won, and the slot is kept
module _ {p q r : PassView} {slot n : ℕ} (d : Did (TakeFlag slot) p.trace q.trace n) (won : has_flag n slot ≡ true)
    (is : IsStart p.trace.start) (keeps : KeepsPool p q) (same : r.trace ≡ q.trace)
    (pool : r.pool ≡ q.pool ++ slot ∷ []) (hand : r.hand ≡ q.hand) where
  pool_is : r.pool ≡ p.pool ++ slot ∷ []
  pool_is = pool ∙ ap (λ xs. xs ++ slot ∷ []) keeps.0

  has_kept : (s : ℕ) → HasSlot p s → HasSlot r s
  has_kept s (inl c) = inl (subst (λ xs. Contains xs s) (sym pool_is) (Contains-append_left p.pool (slot ∷ []) s c))
  has_kept s (inr h) = inr (hand ∙ keeps.1 ∙ h)

  won_know : (a b : Know) → cond (has_flag n slot) a b ≡ a
  won_know a b = ap (λ (t : Bool). cond t a b) won

  others_own : (s : ℕ) → s ≢ slot → (knows q.trace).own s ≡ (knows p.trace).own s
  others_own s other =
      ap (λ (k : Know). k.own s) (d.know ∙ won_know _ (knows p.trace)) ∙ put_other (knows p.trace).own _ _ s other

  free : HasFree p r
  free s could = dite (ℕ_discrete s slot)
      (λ (is : s ≡ slot).
      inl (subst (λ xs. Contains xs s) (sym pool_is)
      (subst (λ x. Contains (p.pool ++ slot ∷ []) x) (sym is) (Contains-push p.pool slot))))
      (λ (other : s ≢ slot).
      has_kept s (could.1 (subst MayBear (ap (λ (t : Trace). (knows t).own s) same ∙ others_own s other) could.0)))

  now_taken : WasTaken p.trace q.trace slot
  now_taken =
      let moment = p.trace.seen ++ d.rest in
      record {
        moment = moment;
        is = did_moment d;
        shared = in_pool _
            (flag_shared p.trace.start (world_after p.trace.start moment) slot
            (flag_won slot n (found p.trace.start (world_after p.trace.start moment) (TakeFlag slot)) (flag_shown d)
            won));
        taken = ([], d.seen ∙ sym (append-nil (moment ++ event_of p.trace.who (TakeFlag slot) ∷ [])));
      }

  at_trace : (P : Trace → Type 0) → P q.trace → P r.trace
  at_trace P x = subst P (sym same) x

  -- a slot that is put aside is another one, since this one was in no hand
  aside_won : KeepsAside p r
  aside_won s a =
      let other : s ≢ slot =
      (λ e. subst IsInHand (taken_new p.trace q.trace slot n is d won)
      (subst (λ (t : ℕ). IsInHand ((knows p.trace).own t)) e a.0)) in
      stays_seen p (record r { trace = q.trace }) r same refl refl
      (did_aside d s a.0 (λ e. other (sym (same_slot e))) (λ has. a.1 (was_there s other has)))
    where
      was_there : (s : ℕ) → s ≢ slot → HasSlot r s → HasSlot p s
      was_there s other (inl c) =
          ⊎_elim (λ before. inl before) (λ (e : slot ≡ s). absurd (other (sym e)))
          (Contains-push_cases p.pool slot s (subst (λ xs. Contains xs s) pool_is c))
      was_there s other (inr h) = inr (sym keeps.1 ∙ sym hand ∙ h)

  pub takes_won : TakesFlags p r 1
  takes_won = record {
    took = at_trace (λ t. Took p.trace t 1) (did_took d);
    tries = at_trace (λ t. flags_tried t ≡ flags_tried p.trace + 1) (did_made is_try d);
    grows = (slot ∷ [], pool_is);
    each = λ s there.
        ⊎_elim (λ before. inl before)
        (λ (is : slot ≡ s).
        inr (subst (WasTaken p.trace r.trace) is (at_trace (λ t. WasTaken p.trace t slot) now_taken)))
        (Contains-push_cases p.pool slot s (subst (λ xs. Contains xs s) pool_is there));
    hand = hand ∙ keeps.1;
    quiet = at_trace (Quiet p.trace) (did_quiet d (λ know. refl));
    kept = record {
      free = free;
      stamped = at_trace (λ t. StampsUnlinked p.trace t) (did_stamps d refl);
      turn = at_trace (λ t. GoesInTurn p.trace t) (did_turn d);
      aside = aside_won;
    };
    raised = at_trace (λ t. flags_raised t ≡ flags_raised p.trace) (same_flags d refl);
    won =
        (let w = at_trace (λ t. flags_won t ≡ flags_won p.trace + 1) (won_one d won) in
        let longer : length r.pool ≡ length p.pool + 1 = ap length pool_is ∙ length-append p.pool (slot ∷ []) in
        omega (arith, w, longer));
    beyond =
        (let w = at_trace (λ t. flags_won t ≡ flags_won p.trace + 1) (won_one d won) in
        let b = at_trace (λ t. times_beyond t ≤ times_beyond p.trace + 1) (won_beyond d won) in
        omega (arith, w, b));
    advances = at_trace (λ t. advances t ≡ advances p.trace) (same_advances d refl);
  }

-- ---- the way from one slot to another

-- so many tries were made, and each slot before the next one was taken, or was outside
pub record Reserving (p q : PassView) (from next to full probes used : ℕ) (shown : Option ℕ) : Type 0 where
  pub takes : TakesFlags p q used
  pub most : (q.pool ≡ p.pool) ⊎ (length q.pool ≤ full)
  pub tries : used ≤ probes
  pub idle : full ≤ length p.pool → used ≡ 0
  pub ahead : (slot : ℕ) → slot < p.trace.start.shape.slots → from ≤ slot → slot < next → IsMissed p q slot
  pub few : used + from ≤ next
  pub within : used ≤ to - from
  pub counted : AreCounted p q from to next shown used
  pub reach : (next ≤ 64 * flag_words to) ⊎ (used ≡ 0)

pub missed_on : (p : PassView) {q r : PassView} {n : ℕ} {slot : ℕ} → IsMissed p q slot → TakesFlags q r n →
    IsMissed p r slot
missed_on p {slot = slot} (inl there) b =
    inl (subst (λ xs. Contains xs slot) (sym b.grows.1) (Contains-append_left _ b.grows.0 slot there))
missed_on p (inr out) b = inr (missed_before out b.quiet)

pub missed_then : {p q : PassView} (r : PassView) {n slot : ℕ} → TakesFlags p q n → IsMissed q r slot →
    IsMissed p r slot
missed_then r a (inl there) = inl there
missed_then r a (inr out) = inr (missed_after a.quiet out)

-- the own pool had room before, where it has room
has_room : {p q : PassView} {n most : ℕ} → TakesFlags p q n → length q.pool < most → most ≤ length p.pool → ⊥
has_room {p} {q} takes low full = let more = longer p q takes.grows in omega (arith, low, full, more)

-- what comes next is no further than the next word
behind_low : {slot : ℕ} {shown : Option ℕ} {next : ℕ × Option ℕ} → IsNextToTry slot shown next →
    next.0 ≤ 64 * (slot / 64 + 1)
behind_low {slot} {shown} {next} behind = go behind.place
  where
    go : ((word_of_flag next.0 ≡ word_of_flag slot) × (may_be_set shown next.0 ≡ true) × (next.1 ≡ shown)) ⊎
        ((next.0 ≡ 64 * (slot / 64 + 1)) × (next.1 ≡ None)) → next.0 ≤ 64 * (slot / 64 + 1)
    go (inl here) = let same = here.0 in omega (arith, same)
    go (inr past) = let at = past.0 in omega (arith, at)

-- a slot whose flag wasn't set in the word that was shown was outside
passed_by : (p q : PassView) (from to next used : ℕ) (shown : Option ℕ) → AreCounted p q from to next shown used →
    (s : ℕ) → s < p.trace.start.shape.slots → word_of_flag s ≡ word_of_flag next → may_be_set shown s ≡ false →
    WasOutside p.trace q.trace s
passed_by p q from to next used None counted s low same unset = absurd (true≢false unset)
passed_by p q from to next used (Some word) counted s low same unset = counted.unset s low same unset

module _ {p q : PassView} (r : PassView) {from slot to most probes used n : ℕ} {shown : Option ℕ}
    (next : ℕ × Option ℕ) {t : Trace} (reserving : Reserving p q from slot to most probes used shown)
    (is : IsStart p.trace.start) (below_to : slot < to) (room : used < probes) (low : length q.pool < most)
    (d : Did (TakeFlag slot) q.trace t n) (same : r.trace ≡ t) where
  opens_there : IsStart q.trace.start
  opens_there = subst IsStart (sym reserving.takes.quiet.same.start) is

  did_there : Did (TakeFlag slot) q.trace r.trace n
  did_there = subst (λ (x : Trace). Did (TakeFlag slot) q.trace x n) (sym same) d

  -- one that was taken
  pub reserving_won : TakesFlags q r 1 → r.pool ≡ q.pool ++ slot ∷ [] → IsNextToTry slot shown next →
      Reserving p r from next.0 to most probes (used + 1) next.1
  reserving_won b pool behind = record {
    takes = takes_on used 1 reserving.takes b;
    most = inr (omega (arith, longer_by, low));
    tries = omega (arith, room);
    idle = λ full. absurd (has_room reserving.takes low full);
    ahead = ahead_won;
    few = (let f = reserving.few in let on = behind.above in omega (arith, f, on));
    within = (let f = reserving.few in omega (arith, f, below_to));
    counted = counted_won p q r from to used opens_there did_there longer_by shown next reserving.counted behind;
    reach = inl (let past = behind_low behind in omega (arith, past, below_to));
  }
    where
      longer_by : length r.pool ≡ length q.pool + 1
      longer_by = ap length pool ∙ length-append q.pool (slot ∷ [])

      ahead_won : (s : ℕ) → s < p.trace.start.shape.slots → from ≤ s → s < next.0 → IsMissed p r s
      ahead_won s in_shape above below = elim (cases_order s slot) [
        | inl is_it ↦ inl (subst (λ xs. Contains xs s) (sym pool)
            (subst (λ x. Contains (q.pool ++ slot ∷ []) x) (sym is_it) (Contains-push q.pool slot)))
        | inr which ↦ elim which [
          | inl earlier ↦ missed_on p (reserving.ahead s in_shape above earlier) b
          | inr later ↦ let past = behind_low behind in
              missed_on p
              (inr (passed_by p q from to slot used shown reserving.counted s in_shape
              (omega (arith, later, below, past))
              (behind.none s later below))) b
        ]
      ]

  -- one that was outside, and those up to the next one
  pub reserving_lost : has_flag n slot ≡ false → KeepsPool q r → slot < p.trace.start.shape.slots →
      IsNextToTry slot (Some n) next → Reserving p r from next.0 to most probes (used + 1) next.1
  reserving_lost lost keeps in_range behind = record {
    takes = takes_on used 1 reserving.takes b;
    most = ⊎_elim (λ same. inl (keeps.0 ∙ same)) (λ few. inr (subst (λ xs. length xs ≤ most) (sym keeps.0) few))
        reserving.most;
    tries = omega (arith, room);
    idle = λ full. absurd (has_room reserving.takes low full);
    ahead = ahead_lost;
    few = (let f = reserving.few in let on = behind.above in omega (arith, f, on));
    within = (let f = reserving.few in omega (arith, f, below_to));
    counted = counted_lost p q r from to used opens_there reserving.takes.quiet did_there lost in_range_there below_to
        (ap length keeps.0) shown next reserving.counted behind;
    reach = inl (let past = behind_low behind in omega (arith, past, below_to));
  }
    where
      b : TakesFlags q r 1
      b = takes_lost did_there lost keeps

      in_range_there : slot < q.trace.start.shape.slots
      in_range_there =
          subst (λ (start : Start). slot < start.shape.slots) (sym reserving.takes.quiet.same.start) in_range

      -- the flags of its word were shown
      out : (s : ℕ) → s < p.trace.start.shape.slots → word_of_flag s ≡ word_of_flag slot → has_flag n s ≡ false →
          WasOutside p.trace r.trace s
      out s in_shape same unset =
          missed_after reserving.takes.quiet
          (missed did_there lost s
          (subst (λ (start : Start). s < start.shape.slots) (sym reserving.takes.quiet.same.start) in_shape) same unset)

      ahead_lost : (s : ℕ) → s < p.trace.start.shape.slots → from ≤ s → s < next.0 → IsMissed p r s
      ahead_lost s in_shape above below = elim (cases_order s slot) [
        | inl is_it ↦ inr (out s in_shape (ap word_of_flag is_it) (ap (has_flag n) is_it ∙ lost))
        | inr which ↦ elim which [
          | inl earlier ↦ missed_on p (reserving.ahead s in_shape above earlier) b
          | inr later ↦ let past = behind_low behind in
              inr (out s in_shape (omega (arith, later, below, past)) (behind.none s later below))
        ]
      ]

-- ---- once round

-- no more than so many were kept, in two ways
pub most_on : (p q r : PassView) (full : ℕ) → (q.pool ≡ p.pool) ⊎ (length q.pool ≤ full) →
    (r.pool ≡ q.pool) ⊎ (length r.pool ≤ full) → (r.pool ≡ p.pool) ⊎ (length r.pool ≤ full)
most_on p q r full before (inr few) = inr few
most_on p q r full (inl same) (inl still) = inl (still ∙ same)
most_on p q r full (inr few) (inl still) = inr (subst (λ xs. length xs ≤ full) (sym still) few)

-- with a try for each slot, none is left out
with_all : {p q : PassView} {from to full probes steps : ℕ} → ReservesFrom p q from to full probes steps → to ≤ probes →
    to ≤ p.trace.start.shape.slots → (full ≤ length q.pool) ⊎ ((slot : ℕ) → slot < to → from ≤ slot → IsMissed p q slot)
with_all {p} {q} {from} {to} {full} {probes} {steps} a enough low =
    ⊎_elim inl (λ rest.
    inr (λ slot below above.
    a.each slot (omega (arith, below, low)) above (let over = reach rest in omega (arith, below, over)))) a.ends
  where
    reach : (probes ≤ steps) ⊎ (to ≤ a.next) → to ≤ a.next
    reach (inl all) = let f = a.few in omega (arith, all, enough, f)
    reach (inr over) = over

by_names : {p q r : PassView} {start wanted taken first second : ℕ} → start ≤ p.trace.start.shape.slots →
    start ≡ 64 * word_of_flag start →
    ReservesFrom p q start p.trace.start.shape.slots (most_kept wanted) p.trace.start.shape.slots first →
    ReservesFrom q r 0 start (most_kept wanted) p.trace.start.shape.slots second →
    length r.pool ≡ length p.pool + taken → Reserves p r wanted taken (first + second)
by_names {p} {q} {r} {start} {wanted} {taken} {first} {second} low aligned a b count =
    let there : start ≤ q.trace.start.shape.slots =
    subst (λ (s : Start). start ≤ s.shape.slots) (sym a.takes.quiet.same.start) low in
    record {
      takes = takes_on first second a.takes b.takes;
      count = count;
      most = most_on p q r (most_kept wanted) a.most b.most;
      few =
          (let x = a.words in
          let y = b.words in
          let sum = gained_sum p.trace q.trace r.trace a.takes.quiet.same a.takes.quiet.seen b.takes.quiet.seen in
          let more = longer p q a.takes.grows in
          let still = longer q r b.takes.grows in
          omega (arith, x, y, sum, more, still, aligned, low, count));
      idle = λ full.
          (let none = a.idle full in
          let then = b.idle (let more = longer p q a.takes.grows in omega (arith, full, more)) in
          omega (arith, none, then));
      enough = ⊎_elim
          (λ (full : most_kept wanted ≤ length q.pool).
          inl (let more = longer q r b.takes.grows in omega (arith, full, more)))
          (λ (above : (slot : ℕ) → slot < p.trace.start.shape.slots → start ≤ slot → IsMissed p q slot).
          ⊎_elim (λ full. inl full)
          (λ (below : (slot : ℕ) → slot < start → 0 ≤ slot → IsMissed q r slot).
          inr (λ slot in_shape. ⊎_elim
          (λ (under : slot < start). missed_then r a.takes (below slot under (omega arith)))
          (λ (over : start ≤ slot). missed_on p (above slot in_shape over) b.takes)
          (cases_lt slot start)))
          (with_all b low there))
          (with_all a (omega arith) (omega arith));
    }

pub reserves_round : {p q r : PassView} {start to full wanted taken first second : ℕ} → to ≡ p.trace.start.shape.slots →
    full ≡ most_kept wanted → start ≤ to → start ≡ 64 * word_of_flag start → ReservesFrom p q start to full to first →
    ReservesFrom q r 0 start full to second → length r.pool ≡ length p.pool + taken →
    Reserves p r wanted taken (first + second)
reserves_round {p} {q} {r} {start} {to} {full} {wanted} {taken} {first} {second} end is low aligned a b count =
    by_names (subst (λ (x : ℕ). start ≤ x) end low) aligned
    (subst (λ (x : ℕ × ℕ). ReservesFrom p q start x.0 x.1 x.0 first) (λ i. (end i, is i)) a)
    (subst (λ (x : ℕ × ℕ). ReservesFrom q r 0 start x.1 x.0 second) (λ i. (end i, is i)) b) count

-- how many were taken in two ways, by the pools before and behind them
pub grown_by : {p q r : PassView} {n m : ℕ} → TakesFlags p q n → TakesFlags q r m → (before after : List ℕ) →
    before ≡ p.pool → after ≡ r.pool → length r.pool ≡ length p.pool + (length after - length before)
grown_by {p} {q} {r} a b before after was is =
    let more = longer p r (grows_on p q r a.grows b.grows) in
    let first = ap length was in
    let last = ap length is in
    omega (arith, more, first, last)
