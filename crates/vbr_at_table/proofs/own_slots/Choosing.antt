-- A slot of the own pool is chosen.
-- The epoch is read, the pool is looked through, and the epoch is advanced if no slot is stamped below it.
use Rattle.std.proofs.Common.{◌≡◌, ◌≢◌, ℕ, ◌+◌, ◌<◌, ◌≤◌, List, [], length, get_or, Option, Some, None, refl, sym}
use Rattle.std.proofs.Common.{ap, ◌∙◌, subst, inl, inr, arith}
use Rattle.std.specs.Prelude.{Contains}
use Rattle.std.proofs.lemmas.List.Elements.{All-contains, Contains-get_or}
use Rattle.vbr_machine.specs.Start.{IsStart}
use Rattle.vbr_machine.specs.Acceptance.{MayBear, stamp_in}
use Rattle.vbr_machine.specs.Knowledge.{Know}
use Rattle.vbr_machine.specs.Needs.{NeedsAdvance}
use Rattle.vbr_machine.specs.declared.event.Step.TheVariants.{ReadEpoch, Advance}
use Rattle.vbr_slots.specs.steps.Calls.{Quiet}
use Rattle.vbr_slots.specs.steps.PassLaw.{PassLaw}
use Rattle.vbr_slots.specs.pools.Pools.{IsPooled}
use Rattle.vbr_slots.specs.views.Views.{PassView, KeepsPool, Did, knows}
use Rattle.vbr_slots.proofs.Lemmas.{did_quiet, quiet_on, quiet_refl}
use Rattle.vbr_at_table.specs.costs.Advances.{AdvancesOnce}
use Rattle.vbr_at_table.specs.hands.KeptSlots.{HasSlot, KeepsSlots, SharesWhereFull, TakesNoSlot}
use Rattle.vbr_at_table.specs.pools.Pieces.{Chooses, ChoosesNone, IsChosen, IsScanned, IsShortOrSpent, IsStampedBelow}
use Rattle.vbr_at_table.specs.pools.Pieces.{Scans}
use Rattle.vbr_at_table.specs.pools.Pieces.{ScansPart, Uses}
use Rattle.vbr_at_table.specs.pools.Refusals.{AllStamped}
use Rattle.vbr_at_table.specs.costs.WithinBudget.{CountsSteps}
use Rattle.vbr_at_table.specs.pools.Taking.{IsOldest}
use Rattle.vbr_at_table.specs.declared.budget.TheConstants.{PIECE}
use Rattle.vbr_at_table.specs.declared.refusal.Refusal.{Refusal}
use Rattle.vbr_at_table.specs.declared.refusal.Refusal.TheVariants.{OutOfSteps, EpochSpent}
use Rattle.vbr_at_table.proofs.returns.InTurn.{did_turn}
use Rattle.vbr_at_table.proofs.steps.StepCounts.{same_made}
use Rattle.vbr_at_table.specs.costs.StepKinds.{bears_in}
use Rattle.vbr_at_table.proofs.epochs.Advancing.{same_advances, same_flags, same_tries, nobody, slots_kept_on}
use Rattle.vbr_at_table.proofs.epochs.Advancing.{keeps_refl}
use Rattle.vbr_at_table.proofs.epochs.Advancing.{keeps_known, shared_on, none_on, did_none, once, once_after}
use Rattle.vbr_at_table.proofs.epochs.Advancing.{once_before}
use Rattle.vbr_at_table.proofs.steps.Counting.{counts_none, counts_one, counts_on, uses_on, uses_more}
use Rattle.vbr_at_table.proofs.flags.FlagsInNeed.{wins_none, wins_none_on, wins_none_refl}
use Rattle.vbr_at_table.proofs.own_slots.Scanning.{some_slot}
use Rattle.vbr_at_table.proofs.reads.Shown.{epoch_told}
use Rattle.vbr_at_table.proofs.epochs.EpochReads.{stamps_reread, stamps_low, read_above}

-- no slot is lost where the epoch is read and the pool is looked through
none_read : {p q r : PassView} {e : ℕ} → Did ReadEpoch p.trace q.trace e → KeepsPool p q → TakesNoSlot q r →
    TakesNoSlot p r
none_read read pool looked = none_on (did_none read refl tt pool) looked

-- and where the epoch is advanced and read
kept_raised : (p q r : PassView) {e n f : ℕ} → Did (Advance e) p.trace q.trace n → Did ReadEpoch q.trace r.trace f →
    KeepsPool p q → KeepsPool q r → KeepsSlots p r
kept_raised p q r advance again keeps still =
    slots_kept_on p q r
    (keeps_known p q keeps (did_turn advance) (λ s. ap (λ (k : Know). k.own s) advance.know)
    (λ s. same_made (bears_in s) advance refl))
    (let none : TakesNoSlot q r = did_none again refl tt still in none.kept)

shared_raised : (p q r : PassView) {e n f : ℕ} → Did (Advance e) p.trace q.trace n → Did ReadEpoch q.trace r.trace f →
    SharesWhereFull 1 p r
shared_raised p q r advance again = inl (same_flags again refl ∙ same_flags advance refl)

-- nothing was done yet
pub chooses_refl : (p : PassView) → Chooses p p
chooses_refl p =
    record {
      quiet = quiet_refl p.trace;
      pool = (refl, refl);
      kept = keeps_refl p;
      shared = inl refl;
      tries = refl;
      wins = wins_none_refl p.trace;
      advances = inl refl;
    }

pub short_first : (p : PassView) (budget used : ℕ) → used ≤ budget → budget < used + PIECE →
    ChoosesNone p p budget used (OutOfSteps used, used)
short_first p budget used within short = record {
  uses = record { counts = counts_none p.trace used; within = within; at_most = omega arith };
  why = (refl, short);
}

-- the epoch was read, and then the pool was looked through
module _ (p q r : PassView) (e budget used : ℕ) (read : Did ReadEpoch p.trace q.trace e) (room : used + PIECE ≤ budget)
    (stayed : KeepsPool p q) (scans : Scans q r) where
  long : length q.pool ≡ length p.pool
  long = ap length stayed.0

  quiet_then : Quiet p.trace r.trace
  quiet_then = quiet_on (did_quiet read (λ know. refl)) scans.quiet

  none_then : TakesNoSlot p r
  none_then = none_read read stayed scans.takes_no_slot

  keeps_then : KeepsPool p r
  keeps_then = (scans.pool.0 ∙ stayed.0, scans.pool.1 ∙ stayed.1)

  pub chooses_then : Chooses p r
  chooses_then =
      record {
        quiet = quiet_then;
        pool = keeps_then;
        kept = none_then.kept;
        shared = none_then.shared;
        tries = none_then.tries;
        wins = none_then.wins;
        advances = inl none_then.count;
      }

  first : Uses p q budget used (used + 1) 1
  first = record { counts = counts_one used read; within = omega arith; at_most = omega arith }

  last_read : (knows r.trace).epoch ≡ e
  last_read = ap (λ (k : Know). k.epoch) scans.known ∙ epoch_told read

  uses_then : {since : ℕ} → Uses q r budget (used + 1) since (length q.pool) →
      Uses p r budget used since (length p.pool + 1)
  uses_then uses = uses_more (length p.pool + 1) (let e = long in omega arith) (uses_on first uses)

  -- the budget had no room to look it through
  pub short_then : (told : Refusal × ℕ) → ScansPart q r budget (used + 1) (length q.pool) told →
      ChoosesNone p r budget used told
  short_then told part =
      record {
        uses = uses_then part.uses;
        why = subst (IsShortOrSpent r budget told.1) (sym part.why) (refl, part.short);
      }

  module _ (found : Option (ℕ × ℕ)) (since : ℕ)
      (scanned : IsScanned q r e budget (used + 1) (length q.pool) (found, since)) where
    uses : Uses p r budget used since (length p.pool + 1)
    uses = uses_then scanned.uses

    pub chosen_then : (at : ℕ × ℕ) → found ≡ Some at → IsChosen p r budget used (at, since)
    chosen_then at is = record {
      uses = uses_more (length p.pool + 3) (omega arith) uses;
      below = subst (λ (x : ℕ × Option (ℕ × ℕ)). IsStampedBelow r x.0 x.1) (λ i. (sym last_read i, is i)) scanned.below;
    }

    -- or none to advance the epoch
    pub full_then : budget < since + PIECE → ChoosesNone p r budget used (OutOfSteps since, since)
    full_then short = record { uses = uses; why = (refl, short) }

    module _ (none : found ≡ None) (law : PassLaw r) where
      may : (slot : ℕ) → Contains r.pool slot → MayBear ((knows r.trace).own slot)
      may slot has = (All-contains (IsPooled r.trace.start (knows r.trace)) r.pool slot law.own.pooled has).1

      high : (slot : ℕ) → Contains r.pool slot → e ≤ stamp_in ((knows r.trace).own slot)
      high slot has =
          All-contains (λ (s : ℕ). e ≤ stamp_in ((knows r.trace).own s)) r.pool slot
          (subst (IsStampedBelow r e) none scanned.below) has

      low : (slot : ℕ) → Contains r.pool slot → stamp_in ((knows r.trace).own slot) ≤ e
      low slot has =
          subst (λ (k : Know). MayBear (k.own slot) → stamp_in (k.own slot) ≤ e) (sym scans.known)
          (stamps_low read (subst IsStart scans.quiet.same.start law.start) slot) (may slot has)

      stamped : AllStamped r e
      stamped k d less =
          let has = Contains-get_or r.pool k d less in
          let h = high (get_or r.pool k d) has in
          let l = low (get_or r.pool k d) has in
          omega arith

      some_then : p.pool ≢ [] → r.pool ≢ []
      some_then some none = some (sym keeps_then.0 ∙ none)

      pub spent_then : p.pool ≢ [] → e ≡ r.trace.start.shape.last_epoch → since + PIECE ≤ budget →
          ChoosesNone p r budget used (EpochSpent e, since)
      spent_then some last left =
          record {
            uses = uses;
            why = (record { last = last; last_read = last_read; some = some_then some; stamped = stamped }, left);
          }

      -- and the epoch was advanced, and read again
      module _ (s t : PassView) (n f : ℕ) (advance : Did (Advance e) r.trace s.trace n)
          (again : Did ReadEpoch s.trace t.trace f) (keeps : KeepsPool r s) (still : KeepsPool s t)
          (empty : p.hand ≡ None) where
        rises : e < f
        rises = read_above law.start advance again last_read

        stamps_since : (slot : ℕ) → stamp_in ((knows t.trace).own slot) ≡ stamp_in ((knows s.trace).own slot)
        stamps_since slot = stamps_reread again slot

        stamps_first : (slot : ℕ) → stamp_in ((knows s.trace).own slot) ≡ stamp_in ((knows r.trace).own slot)
        stamps_first slot = ap (λ (k : Know). stamp_in (k.own slot)) advance.know

        quiet_again : Quiet s.trace t.trace
        quiet_again = did_quiet again (λ know. refl)

        -- the first slot of the pool is one that waits for it
        in_need : p.pool ≢ [] → NeedsAdvance (knows r.trace) e
        in_need some =
            let slot : ℕ = get_or r.pool 0 0 in
            let has = Contains-get_or r.pool 0 0 (some_slot r.pool (some_then some)) in
            record { slot = slot; may = may slot has; stamped = high slot has }

        raised_once : p.pool ≢ [] → AdvancesOnce p t
        raised_once some =
            once_after {p = p} {q = r} {r = t} quiet_then none_then.count none_then.kept.free
            (once_before {p = r} {q = s} {r = t}
            (once {p = r} {q = s} advance last_read (λ slot has. high slot (held slot has)) (in_need some))
            quiet_again.seen
            quiet_again.is_run (same_advances again refl))
          where
            held : (slot : ℕ) → HasSlot r slot → Contains r.pool slot
            held slot (inl c) = c
            held slot (inr h) = nobody r.hand slot (keeps_then.1 ∙ empty) h

        raised_chooses : p.pool ≢ [] → Chooses p t
        raised_chooses some = record {
          quiet = quiet_on quiet_then (quiet_on (did_quiet advance (λ know. refl)) quiet_again);
          pool = (still.0 ∙ keeps.0 ∙ keeps_then.0, still.1 ∙ keeps.1 ∙ keeps_then.1);
          kept = slots_kept_on p r t none_then.kept (kept_raised r s t advance again keeps still);
          shared = shared_on p r t 1 none_then.shared (let e = ap length (still.0 ∙ keeps.0) in omega arith)
              (shared_raised r s t advance again);
          tries = same_tries again refl ∙ same_tries advance refl ∙ none_then.tries;
          wins = wins_none_on none_then.wins (wins_none_on (wins_none advance refl refl) (wins_none again refl refl));
          advances = inr (raised_once some);
        }

        raised_chosen : (pool : List ℕ) → pool ≡ t.pool → p.pool ≢ [] → since + PIECE ≤ budget →
            IsChosen p t budget used ((0, get_or pool 0 0), since + 2)
        raised_chosen pool shown some left =
            let there : pool ≡ r.pool = shown ∙ still.0 ∙ keeps.0 in
            let slot : ℕ = get_or pool 0 0 in
            let has : Contains pool slot =
            Contains-get_or pool 0 0 (some_slot pool (λ none. some_then some (sym there ∙ none))) in
            let l = low slot (subst (λ (l : List ℕ). Contains l slot) there has) in
            let x = stamps_since slot in
            let y = stamps_first slot in
            let told = epoch_told again in
            let up = rises in
            let m = uses.at_most in
            let first_one : IsOldest (knows t.trace) t.pool slot (knows t.trace).epoch =
            subst (λ (l : List ℕ). IsOldest (knows t.trace) l slot (knows t.trace).epoch) shown
            (record {
              place = 0;
              low = some_slot pool (λ none. some_then some (sym there ∙ none));
              is = refl;
              before = λ k less. absurd (omega arith);
            }) in
            record {
              uses = record {
                counts =
                    counts_on uses.counts
                    (subst (λ (k : ℕ). CountsSteps r.trace t.trace since k) (omega arith)
                    (counts_on (counts_one since advance) (counts_one (since + 1) again)));
                within = omega arith;
                at_most = omega arith;
              };
              below = (
                subst (λ (l : List ℕ). 0 < length l) shown (some_slot pool (λ none. some_then some (sym there ∙ none))),
                ap (λ (l : List ℕ). get_or l 0 0) (sym shown),
                omega arith,
                first_one,
              );
            }

        pub raised_then : (pool : List ℕ) → pool ≡ t.pool → p.pool ≢ [] → since + PIECE ≤ budget →
            Chooses p t × IsChosen p t budget used ((0, get_or pool 0 0), since + 2)
        raised_then pool shown some left = (raised_chooses some, raised_chosen pool shown some left)
