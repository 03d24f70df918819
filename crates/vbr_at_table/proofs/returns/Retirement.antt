-- An unlinked slot that returns: it is stamped with an epoch that was read before.
use Rattle.std.proofs.Common.{◌≡◌, ℕ, ◌-◌, ◌<◌, ◌≤◌, ◌==◌, Bool, true, false, cond, Option, Some, None, List, [], ◌∷◌}
use Rattle.std.proofs.Common.{◌++◌, length, arith, refl, sym, ap, ◌∙◌, append_assoc, append-nil, subst, inr, ⊎_elim}
use Rattle.std.proofs.Common.{◌≢◌}
use Rattle.std.proofs.lemmas.Bool.{cases_eq}
use Rattle.std.proofs.lemmas.Bool.Decides.{nat_tests}
use Rattle.vbr_machine.specs.Start.{Start, IsStart}
use Rattle.vbr_machine.specs.Accounts.{incarnations_after}
use Rattle.vbr_at_table.specs.costs.StepKinds.{ChangesNone}
use Rattle.vbr_at_table.proofs.steps.Unchanged.{did_unchanged, none_counted, raise_unchanged, unchanged_on}
use Rattle.vbr_machine.specs.Agreement.{OwnFits}
use Rattle.vbr_machine.specs.Incarnations.{Incarnations}
use Rattle.vbr_machine.specs.Sound.{SlotsSound}
use Rattle.vbr_machine.specs.Runs.{IsRun, know_after}
use Rattle.vbr_machine.proofs.Lemmas.{begins_trans, put_here, put_other, run_agrees}
use Rattle.vbr_machine.specs.Acceptance.{IsInHand, MayBear, IsUnlinked}
use Rattle.vbr_machine.specs.Knowledge.{Know}
use Rattle.vbr_machine.specs.Learning.{read_epoch, reread, with_own}
use Rattle.vbr_machine.specs.Put.{put}
use Rattle.vbr_machine.specs.declared.knowledge.Holding.{Holding}
use Rattle.vbr_machine.specs.declared.knowledge.Holding.TheVariants.{Free, Unlinked, InHand}
use Rattle.vbr_slots.specs.declared.pass.TheConstants.{POOL}
use Rattle.vbr_slots.specs.pools.Pools.{OwnPool, hand_without}
use Rattle.vbr_machine.specs.declared.event.Event.{Event}
use Rattle.vbr_machine.specs.declared.event.Step.TheVariants.{ReadEpoch, StoreStamp, Raise}
use Rattle.vbr_slots.specs.steps.Calls.{Quiet, Took}
use Rattle.vbr_slots.specs.steps.PassLaw.{PassLaw}
use Rattle.vbr_slots.specs.views.Views.{Trace, PassView, TableView, KeepsPool, Did, IsOf, knows, event_of}
use Rattle.vbr_slots.proofs.Lemmas.{did_moment, did_quiet, did_took, hand_alone, hand_stays, moment_before, quiet_on}
use Rattle.vbr_slots.proofs.Lemmas.{took_on}
use Rattle.vbr_at_table.specs.hands.KeptSlots.{IsAside, StaysAside, TakesNoSlot}
use Rattle.vbr_at_table.specs.pools.Retiring.{Retires, StampsFreshly, is_kept, know_retired}
use Rattle.vbr_at_table.proofs.flags.FlagsInNeed.{raised_after_stamp}
use Rattle.vbr_at_table.proofs.returns.InTurn.{did_stay_turn}
use Rattle.vbr_at_table.proofs.epochs.EpochReads.{own_read}
use Rattle.vbr_at_table.proofs.own_slots.SlotsAside.{did_aside, pool_aside, same_slot, stays_on, still_aside}
use Rattle.vbr_at_table.proofs.epochs.Advancing.{same_advances, same_tries, did_stamps, free_pool, grows_same, none_on}
use Rattle.vbr_at_table.proofs.epochs.Advancing.{did_none, none_given}
use Rattle.vbr_at_table.proofs.returns.AloneRetirement.{retired_leaves, retired_fresh, raised_leaves, raised_fresh}
use Rattle.vbr_at_table.proofs.reads.Shown.{epoch_told, epoch_stood}

module _ {p q r : Trace} {slot e n : ℕ} (read : Did ReadEpoch p q e)
    (stamp : Did (StoreStamp slot (knows q).epoch) q r n) where
  retired_quiet : Quiet p r
  retired_quiet = quiet_on (did_quiet read (λ know. refl)) (did_quiet stamp (λ know. refl))

  -- it was stamped with the epoch that was read
  stamped : StampsFreshly p r slot (knows r).epoch
  stamped =
      let told : (knows r).epoch ≡ (knows q).epoch = epoch_told stamp in
      let mark = λ (who epoch : ℕ). event_of who (StoreStamp slot epoch) in
      record {
        reading = p.seen ++ read.rest;
        is = moment_before (did_moment read) (did_quiet stamp (λ know. refl));
        was_epoch = epoch_stood read ∙ sym (epoch_told read) ∙ sym told;
        stamping = q.seen ++ stamp.rest;
        later = (
          event_of p.who ReadEpoch ∷ stamp.rest,
          ap (λ (l : List Event). l ++ stamp.rest) read.seen
              ∙ append_assoc (p.seen ++ read.rest) (event_of p.who ReadEpoch ∷ []) stamp.rest,
        );
        stamped = (
          [],
          stamp.seen ∙ (λ i. (q.seen ++ stamp.rest) ++ mark (read.same.3 i) (sym told i) ∷ [])
              ∙ sym (append-nil ((q.seen ++ stamp.rest) ++ mark p.who (knows r).epoch ∷ [])),
        );
      }

module _ {p q r : Trace} {slot e n : ℕ} (read : Did ReadEpoch p q e)
    (stamp : Did (StoreStamp slot (knows q).epoch) q r n) where
  retired_unchanged : ChangesNone p r
  retired_unchanged =
      unchanged_on (did_unchanged read (λ w a bucket. refl))
      (did_unchanged stamp (λ w a bucket. none_counted (q.who == q.who)))

  raised_unchanged : {t : Trace} {m : ℕ} → Did (Raise slot) r t m → ChangesNone p t
  raised_unchanged raise = unchanged_on retired_unchanged (raise_unchanged raise)

-- and more steps leave that
stamped_before : {p q r : Trace} {slot epoch : ℕ} → StampsFreshly p q slot epoch → Quiet q r →
    StampsFreshly p r slot epoch
stamped_before {p} {q} {r} a b = record {
  reading = a.reading;
  is = moment_before a.is b;
  was_epoch = a.was_epoch;
  stamping = a.stamping;
  later = a.later;
  stamped = begins_trans _ q.seen r.seen a.stamped b.seen;
}

-- ---- what the pass could take

in_no_hand : (holding : Option Holding) → IsUnlinked holding → ¬ (IsInHand (reread holding))
in_no_hand None is held = held
in_no_hand (Some (Free stamp)) is held = held
in_no_hand (Some (Unlinked seen)) is held = held
in_no_hand (Some (InHand known)) is held = is

module _ {p q r : PassView} {slot e n : ℕ} (read : Did ReadEpoch p.trace q.trace e)
    (stamp : Did (StoreStamp slot (knows q.trace).epoch) q.trace r.trace n) (stays : KeepsPool p q)
    (still : KeepsPool q r) (unlinked : IsUnlinked ((knows p.trace).own slot)) where
  -- the slot is in no hand
  not_held : ¬ (IsInHand ((knows q.trace).own slot))
  not_held held =
      in_no_hand ((knows p.trace).own slot) unlinked
      (subst IsInHand (ap (λ (k : Know). k.own slot) read.know ∙ own_read (knows p.trace) e slot) held)

  others : (s : ℕ) → s ≢ slot → MayBear ((knows r.trace).own s) → MayBear ((knows q.trace).own s)
  others s other m = subst MayBear (ap (λ (k : Know). k.own s) stamp.know ∙ put_other (knows q.trace).own _ _ s other) m

  -- a slot that is kept is in the pool
  kept_none : {t : PassView} → t.trace ≡ r.trace → t.pool ≡ r.pool ++ slot ∷ [] → t.hand ≡ hand_without slot r.hand →
      TakesNoSlot p t
  kept_none same pool hand =
      none_on (did_none read refl tt stays)
      (none_given stamp refl refl refl refl not_held others still same pool hand refl)

  -- and one that isn't is no more the pass's own
  raised_none : {t : PassView} {m : ℕ} → Did (Raise slot) r.trace t.trace m → t.pool ≡ p.pool → t.hand ≡ r.hand →
      POOL - 1 ≤ length p.pool → OwnPool p.trace.start (knows p.trace) p.pool p.hand → TakesNoSlot p t
  raised_none {t} raise pool hand full own =
      none_on {p = p} {q = q} {r = t} (did_none read refl tt stays) (record {
        count = same_advances raise refl ∙ same_advances stamp refl;
        kept = record {
          free = free_pool q t (pool ∙ sym stays.0, hand ∙ still.1)
              (λ s m. ⊎_elim (λ (is : s ≡ slot). gone s is m)
              (λ (other : s ≢ slot).
              others s other
              (subst MayBear (ap (λ (k : Know). k.own s) raise.know ∙ put_other (knows r.trace).own _ _ s other) m))
              (cases_eq s slot));
          stamped = λ s u. did_stamps stamp refl s (did_stamps raise refl s u);
          turn = λ all turn. did_stay_turn raise refl (did_stay_turn stamp refl turn);
          aside = λ s a. aside_raised s a;
        };
        grows = grows_same q t (pool ∙ sym stays.0);
        shared = inr (let e = ap length pool in omega arith);
        tries = same_tries raise refl ∙ same_tries stamp refl;
        wins = raised_after_stamp p q r read stamp own (omega (arith, full)) raise;
      })
    where
      aside_raised : (s : ℕ) → IsAside q s → StaysAside q t s
      aside_raised s a =
          let other : Some slot ≡ Some s → ⊥ =
          (λ x. not_held (subst (λ (i : ℕ). IsInHand ((knows q.trace).own i)) (sym (same_slot x)) a.0)) in
          let stamped = did_aside {p = q} {q = r} stamp s a.0 other (pool_aside q r still s a.1) in
          stays_on stamped
          (did_aside {p = r} {q = t} raise s (still_aside a stamped).0 other
          (pool_aside q t (pool ∙ sym stays.0, hand ∙ still.1) s a.1))

      gone : (s : ℕ) → s ≡ slot → MayBear ((knows t.trace).own s) → MayBear ((knows q.trace).own s)
      gone s is m =
          absurd (subst MayBear
          (ap (λ (i : ℕ). (knows t.trace).own i) is ∙ ap (λ (k : Know). k.own slot) raise.know
          ∙ put_here (knows r.trace).own slot None) m)

-- ---- what the pass knows

-- what is stored last at a place is what stands there
put_twice : {A : Type 0} (f : ℕ → A) (n : ℕ) (x y : A) → put (put f n x) n y ≡ put f n y
put_twice {A} f n x y = λ i k. either (f k) (k == n) i
  where
    either : (z : A) (b : Bool) → cond b y (cond b x z) ≡ cond b y z
    either z true = refl
    either z false = refl

module _ {p q r : Trace} {slot e n : ℕ} (read : Did ReadEpoch p q e)
    (stamp : Did (StoreStamp slot (knows q).epoch) q r n) where
  known_stamped : knows r ≡ know_retired (knows p) (knows r).epoch slot true
  known_stamped =
      let told : (knows r).epoch ≡ (knows q).epoch = epoch_told stamp in
      let first : knows q ≡ read_epoch (knows p) (knows r).epoch =
      read.know ∙ ap (read_epoch (knows p)) (sym (epoch_told read) ∙ sym told) in
      stamp.know ∙ (λ i. with_own (first i) slot (Some (Free (sym told i))))

  known_raised : {t : Trace} {m : ℕ} → Did (Raise slot) r t m →
      knows t ≡ know_retired (knows p) (knows t).epoch slot false
  known_raised {t} raise =
      let told : (knows t).epoch ≡ (knows r).epoch = epoch_told raise in
      let first : know_retired (knows p) (knows r).epoch slot true ≡ know_retired (knows p) (knows t).epoch slot true =
      ap (λ (epoch : ℕ). know_retired (knows p) epoch slot true) (sym told) in
      raise.know ∙ ap (λ (k : Know). with_own k slot None) (known_stamped ∙ first)
      ∙ twice (read_epoch (knows p) (knows t).epoch) (Some (Free (knows t).epoch))
    where
      twice : (k : Know) (holding : Option Holding) →
          with_own (with_own k slot holding) slot None ≡ with_own k slot None
      twice k holding = λ i. record k { own = put_twice k.own slot holding None i }

-- ---- pools

-- an unlinked slot is one of the shape
pub unlinked_in_shape : (start : Start) (passes : ℕ) (run : List Event) (who slot : ℕ) → IsStart start →
    IsRun start passes run → IsUnlinked ((know_after start run who).own slot) → slot < start.shape.slots
unlinked_in_shape start passes run who slot is ok unlinked =
    let g = run_agrees start passes run is ok in
    go (incarnations_after start run) ((know_after start run who).own slot) unlinked g.sound.slots (g.owns who slot)
    g.fits.slot
  where
    go : (a : Incarnations) (holding : Option Holding) → IsUnlinked holding → SlotsSound start a →
        OwnFits a who (know_after start run who).epoch holding (a.place slot) (a.last slot) (a.stamp slot) →
        ((c : ℕ) → c < a.count → a.slot c < start.shape.slots) → slot < start.shape.slots
    go a None u sound fits low = absurd u
    go a (Some (Free stamp)) u sound fits low = absurd u
    go a (Some (InHand known)) u sound fits low = absurd u
    go a (Some (Unlinked reread)) u sound fits low =
        let by = fits.1 in
        let born = sound.last_born slot by.node by.last_is in
        subst (λ (s : ℕ). s < start.shape.slots) born.1 (low by.node born.0)

-- so it is a slot of the table
pub unlinked_in_table : {p : PassView} {t : TableView} {slot same : ℕ} → PassLaw p → IsOf p.trace t →
    IsUnlinked ((knows p.trace).own slot) → same ≡ slot → same < t.start.shape.slots
unlinked_in_table {p} {t} {slot} law of unlinked e =
    subst (λ (s : ℕ). s < t.start.shape.slots) (sym e)
    (subst (λ (start : Start). slot < start.shape.slots) of.1
    (unlinked_in_shape p.trace.start p.trace.passes p.trace.seen p.trace.who slot law.start law.is_run unlinked))

-- whether it is kept
kept_tells : (pool : List ℕ) → length pool < POOL - 1 → is_kept pool ≡ true
kept_tells pool low = grind (arith, nat_tests)

full_tells : (pool : List ℕ) → POOL - 1 ≤ length pool → is_kept pool ≡ false
full_tells pool full = grind (arith, nat_tests)

-- ---- what the call tells

module _ {p q r : PassView} {slot gone e n : ℕ} (is : IsStart p.trace.start) (read : Did ReadEpoch p.trace q.trace e)
    (stamp : Did (StoreStamp slot (knows q.trace).epoch) q.trace r.trace n) (stays : KeepsPool p q)
    (still : KeepsPool q r) (same : slot ≡ gone) (own : OwnPool p.trace.start (knows p.trace) p.pool p.hand)
    (unlinked : IsUnlinked ((knows p.trace).own gone)) where
  unlinked_here : IsUnlinked ((knows p.trace).own slot)
  unlinked_here = subst (λ (s : ℕ). IsUnlinked ((knows p.trace).own s)) (sym same) unlinked

  took : Took p.trace r.trace 2
  took = took_on 1 1 (did_took read) (did_took stamp)

  -- the slot is kept
  pub retires_kept : {t : PassView} → length p.pool < POOL - 1 → t.trace ≡ r.trace → t.pool ≡ r.pool ++ slot ∷ [] →
      t.hand ≡ r.hand → Retires p t gone 2
  retires_kept {t} low seen pool hand =
      let kept = kept_tells p.pool low in
      at_end (record {
        took = took;
        count = sym (ap (λ (b : Bool). cond b 2 3) kept);
        quiet = retired_quiet read stamp;
        takes_no_slot = kept_none read stamp stays still unlinked_here refl pool (hand ∙ sym still_held);
        turn = λ turn. did_stay_turn stamp refl (did_stay_turn read refl turn);
        stamped = stamped read stamp;
        known = known_stamped read stamp ∙ ap (know_retired (knows p.trace) (knows r.trace).epoch slot) (sym kept);
        pool = pool ∙ ap (λ (l : List ℕ). l ++ slot ∷ []) (still.0 ∙ stays.0)
            ∙ sym (ap (λ (b : Bool). cond b (p.pool ++ slot ∷ []) p.pool) kept);
        hand = hand ∙ still.1 ∙ stays.1;
        unchanged = retired_unchanged read stamp;
        alone = λ alone. (retired_leaves is read stamp alone, retired_fresh is read stamp alone);
      })
    where
      -- the slot isn't in hand
      still_held : hand_without slot r.hand ≡ r.hand
      still_held = ap (hand_without slot) (still.1 ∙ stays.1)
          ∙ hand_stays slot p.hand
          (λ h. (hand_alone p.trace.start (knows p.trace) slot p.pool p.hand own h).1
          (subst (λ (s : ℕ). IsUnlinked ((knows p.trace).own s)) (sym same) unlinked))
          ∙ sym (still.1 ∙ stays.1)

      at_end : Retires p (record t { trace = r.trace }) slot 2 → Retires p t gone 2
      at_end x = subst (λ (y : Trace × ℕ). Retires p (record t { trace = y.0 }) y.1 2) (λ i. (sym seen i, same i)) x

  -- or it isn't
  pub retires_raised : {t : PassView} {m : ℕ} → POOL - 1 ≤ length p.pool → Did (Raise slot) r.trace t.trace m →
      KeepsPool r t → Retires p t gone 3
  retires_raised {t} full raise last = subst (λ (s : ℕ). Retires p t s 3) same (record {
    took = took_on 2 1 took (did_took raise);
    count = sym (ap (λ (b : Bool). cond b 2 3) left);
    quiet = quiet_all;
    takes_no_slot = raised_none read stamp stays still unlinked_here raise pool_stays last.1 full own;
    turn = λ turn. did_stay_turn raise refl (did_stay_turn stamp refl (did_stay_turn read refl turn));
    stamped = subst (λ (epoch : ℕ). StampsFreshly p.trace t.trace slot epoch) (sym (epoch_told raise))
        (stamped_before (stamped read stamp) (did_quiet raise (λ know. refl)));
    known = known_raised read stamp raise ∙ ap (know_retired (knows p.trace) (knows t.trace).epoch slot) (sym left);
    pool = pool_stays ∙ sym (ap (λ (b : Bool). cond b (p.pool ++ slot ∷ []) p.pool) left);
    hand = last.1 ∙ still.1 ∙ stays.1;
    unchanged = raised_unchanged read stamp raise;
    alone = λ alone. (raised_leaves is read stamp raise alone, raised_fresh is read stamp raise alone);
  })
    where
      left : is_kept p.pool ≡ false
      left = full_tells p.pool full

      quiet_all : Quiet p.trace t.trace
      quiet_all = quiet_on (retired_quiet read stamp) (did_quiet raise (λ know. refl))

      pool_stays : t.pool ≡ p.pool
      pool_stays = last.0 ∙ still.0 ∙ stays.0
