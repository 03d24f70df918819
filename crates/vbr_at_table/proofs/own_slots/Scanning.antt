-- The own pool, looked through for a slot that is stamped below an epoch.
use Rattle.std.proofs.Common.{◌≡◌, ◌≢◌, [], ◌∷◌, ℕ, zero, suc, ◌+◌, ◌-◌, ◌<◌, ◌≤◌, List, length, get_or, Option}
use Rattle.std.proofs.Common.{Some, None, refl, sym, ap, ◌∙◌, subst, ⊎_elim}
use Rattle.std.proofs.Common.{arith}
use Rattle.std.specs.Prelude.{All, Contains, IsSome, IfOk, IfErr, Result, Ok, Err, ◌⊎◌}
use Rattle.std.proofs.lemmas.List.{get_or_default}
use Rattle.std.proofs.lemmas.List.Elements.{All-contains, Contains-get_or}
use Rattle.vbr_machine.specs.Acceptance.{MayBear, stamp_in}
use Rattle.vbr_machine.specs.Knowledge.{Know}
use Rattle.vbr_machine.specs.declared.event.Step.TheVariants.{LoadStamp}
use Rattle.vbr_machine.specs.declared.knowledge.Holding.{Holding}
use Rattle.vbr_slots.specs.steps.Calls.{Quiet}
use Rattle.vbr_slots.specs.pools.Pools.{IsPooled, OwnPool}
use Rattle.vbr_slots.specs.views.Views.{PassView, KeepsPool, Did, knows}
use Rattle.vbr_slots.proofs.Lemmas.{did_quiet, quiet_on, quiet_refl}
use Rattle.vbr_at_table.specs.hands.KeptSlots.{TakesNoSlot}
use Rattle.vbr_at_table.specs.pools.Pieces.{IsScanned, IsStampedFrom, Scans, ScansPart, Uses}
use Rattle.vbr_at_table.specs.costs.WithinBudget.{CountsSteps}
use Rattle.vbr_at_table.specs.pools.Taking.{IsOldest}
use Rattle.vbr_at_table.specs.declared.budget.TheConstants.{PIECE}
use Rattle.vbr_at_table.specs.declared.refusal.Refusal.{Refusal}
use Rattle.vbr_at_table.specs.declared.refusal.Refusal.TheVariants.{OutOfSteps}
use Rattle.vbr_at_table.proofs.epochs.Advancing.{did_none, none_on, none_refl}
use Rattle.vbr_at_table.proofs.steps.Counting.{counts_none, counts_one, counts_on}

-- a pool with no slot is empty
pub some_slot : (pool : List ℕ) → pool ≢ [] → 0 < length pool
some_slot [] some = absurd (some refl)
some_slot (x ∷ xs) some = omega arith

-- a slot of the own pool is one of the shape, and the pass owns it
pub pooled_at : (q : PassView) {pool : List ℕ} {k : ℕ} → pool ≡ q.pool →
    OwnPool q.trace.start (knows q.trace) q.pool q.hand → k < length pool →
    (get_or pool k 0 < q.trace.start.shape.slots) × IsSome ((knows q.trace).own (get_or pool k 0))
pooled_at q {pool} {k} shown own low =
    let there : Contains q.pool (get_or pool k 0) =
    subst (λ (l : List ℕ). Contains l (get_or pool k 0)) shown (Contains-get_or pool k 0 low) in
    let is = All-contains (IsPooled q.trace.start (knows q.trace)) q.pool (get_or pool k 0) own.pooled there in
    (is.0, owned ((knows q.trace).own (get_or pool k 0)) is.1)
  where
    owned : (holding : Option Holding) → MayBear holding → IsSome holding
    owned None may = absurd may
    owned (Some holding) may = refl

-- the slots of the pool were looked at from one place to another; and none before that is stamped below the epoch
pub record Scanned (p q : PassView) (epoch budget before from looked used : ℕ) : Type 0 where
  pub quiet : Quiet p.trace q.trace
  pub pool : KeepsPool p q
  pub known : knows q.trace ≡ knows p.trace
  pub none : TakesNoSlot p q
  pub counts : CountsSteps p.trace q.trace before used
  pub sum : used + from ≡ before + looked
  pub within : used ≤ budget
  pub above : (k : ℕ) → k < looked → k < length p.pool → IsStampedFrom p epoch (get_or p.pool k 0)

-- nothing was looked at yet
pub scanned_none : (p : PassView) (epoch budget used from : ℕ) → used ≤ budget →
    ((k : ℕ) → k < from → k < length p.pool → IsStampedFrom p epoch (get_or p.pool k 0)) →
    Scanned p p epoch budget used from from used
scanned_none p epoch budget used from within above = record {
  quiet = quiet_refl p.trace;
  pool = (refl, refl);
  known = refl;
  none = none_refl p;
  counts = counts_none p.trace used;
  sum = refl;
  within = within;
  above = above;
}

-- nothing was looked at, from the first place on
pub none_yet : (p : PassView) (epoch budget used : ℕ) → used ≤ budget → Scanned p p epoch budget used 0 0 used
none_yet p epoch budget used within =
    scanned_none p epoch budget used 0 within (λ k none low. absurd (omega (arith, none)))

-- a pool that has slots has a first one
pub some_first : {pool shown : List ℕ} → shown ≡ pool → pool ≢ [] → 0 < length shown
some_first shows some = some_slot _ (λ none. some (sym shows ∙ none))

-- what lies before the second place is the first
pub only_first : (p : PassView) (epoch : ℕ) → IsStampedFrom p epoch (get_or p.pool 0 0) → (k : ℕ) → k < 1 →
    k < length p.pool → IsStampedFrom p epoch (get_or p.pool k 0)
only_first p epoch first zero less low = first
only_first p epoch first (suc k) less low = absurd (omega (arith, less))

module _ {p q : PassView} {epoch budget before from looked used : ℕ}
    (scanned : Scanned p q epoch budget before from looked used) where
  pub scans : Scans p q
  scans = record { quiet = scanned.quiet; takes_no_slot = scanned.none; pool = scanned.pool; known = scanned.known }

  pub scan_short : looked ≤ length p.pool → budget < used + PIECE →
      ScansPart p q budget before (length p.pool - from) (OutOfSteps used, used)
  scan_short low short = record {
    uses = record {
      counts = scanned.counts;
      within = scanned.within;
      at_most = (let s = scanned.sum in omega (arith, s, low));
    };
    why = refl;
    short = short;
  }

  -- all were looked at
  pub scan_all : looked ≡ length p.pool → IsScanned p q epoch budget before (length p.pool - from) (None, used)
  scan_all all = record {
    uses = record {
      counts = scanned.counts;
      within = scanned.within;
      at_most = (let s = scanned.sum in omega (arith, s, all));
    };
    below = subst (λ (x : Know × List ℕ). All (λ s. epoch ≤ stamp_in (x.0.own s)) x.1)
        (λ i. (sym scanned.known i, sym scanned.pool.0 i))
        (λ k d low. subst (λ (s : ℕ). IsStampedFrom p epoch s) (get_or_default p.pool k 0 d low)
        (scanned.above k (omega (arith, low, all)) low));
  }

module _ {p q r : PassView} {epoch budget before from looked used n : ℕ}
    (scanned : Scanned p q epoch budget before from looked used)
    (pool : List ℕ) (shown : pool ≡ q.pool) (own : OwnPool q.trace.start (knows q.trace) q.pool q.hand)
    (low : looked < length pool)
    (room : used + PIECE ≤ budget) (d : Did (LoadStamp (get_or pool looked 0)) q.trace r.trace n)
    (known : MayBear ((knows q.trace).own (get_or pool looked 0)) →
    n ≡ stamp_in ((knows q.trace).own (get_or pool looked 0))) (stays : KeepsPool q r) where
  abbrev slot : ℕ
  slot = get_or pool looked 0

  there : Contains q.pool slot
  there = subst (λ (l : List ℕ). Contains l slot) shown (Contains-get_or pool looked 0 low)

  -- the stamp that was loaded is the one that the pass knew at the beginning
  loaded : n ≡ stamp_in ((knows p.trace).own slot)
  loaded = known (All-contains (IsPooled q.trace.start (knows q.trace)) q.pool slot own.pooled there).1
      ∙ ap (λ (k : Know). stamp_in (k.own slot)) scanned.known

  pub scans_found : Scans p r
  scans_found = record {
    quiet = quiet_on scanned.quiet (did_quiet d (λ know. refl));
    takes_no_slot = none_on scanned.none (did_none d refl tt stays);
    pool = (stays.0 ∙ scanned.pool.0, stays.1 ∙ scanned.pool.1);
    known = d.know ∙ scanned.known;
  }

  pub scan_next : epoch ≤ n → Scanned p r epoch budget before from (looked + 1) (used + 1)
  scan_next above = record {
    quiet = scans_found.quiet;
    pool = scans_found.pool;
    known = scans_found.known;
    none = scans_found.takes_no_slot;
    counts = counts_on scanned.counts (counts_one used d);
    sum = (let s = scanned.sum in omega arith);
    within = omega arith;
    above = λ k less inside.
        ⊎_elim (λ (is : k ≡ looked).
        subst (λ (s : ℕ). IsStampedFrom p epoch s) (here k is)
        (subst (λ (m : ℕ). epoch ≤ m) loaded above))
        (λ (other : k < looked). scanned.above k other inside) (either k less);
  }
    where
      either : (k : ℕ) → k < looked + 1 → (k ≡ looked) ⊎ (k < looked)
      either k less = grind arith

      here : (k : ℕ) → k ≡ looked → get_or pool looked 0 ≡ get_or p.pool k 0
      here k is = λ i. get_or ((shown ∙ scanned.pool.0) i) (sym is i) 0

  -- the place is one of the pool
  place : looked < length p.pool
  place = subst (λ (l : List ℕ). looked < length l) (shown ∙ scanned.pool.0) low

  oldest : IsOldest (knows p.trace) p.pool slot epoch
  oldest = record {
    place = looked;
    low = place;
    is = sym (ap (λ (l : List ℕ). get_or l looked 0) (shown ∙ scanned.pool.0));
    before = λ k less. scanned.above k less (let l = place in omega (arith, l, less));
  }

  pub scan_found : n < epoch →
      IsScanned p r epoch budget before (length p.pool - from) (Some (looked, slot), used + 1)
  scan_found below = record {
    uses = record {
      counts = counts_on scanned.counts (counts_one used d);
      within = omega arith;
      at_most = (let s = scanned.sum in let l = place in omega (arith, s, l));
    };
    below = (
      subst (λ (l : List ℕ). looked < length l) (shown ∙ sym stays.0) low,
      ap (λ (l : List ℕ). get_or l looked 0) (stays.0 ∙ sym shown),
      subst (λ (m : ℕ). m < epoch) (loaded ∙ sym (ap (λ (k : Know). stamp_in (k.own slot)) (d.know ∙ scanned.known)))
          below,
      subst (λ (x : Know × List ℕ). IsOldest x.0 x.1 slot epoch)
          (λ i. (sym (d.know ∙ scanned.known) i, sym (stays.0 ∙ scanned.pool.0) i)) oldest,
    );
  }

-- the first slot was looked at, and then the others
module _ {p q r : PassView} {epoch budget before : ℕ} (first : Scanned p q epoch budget before 0 1 (before + 1))
    (some : 0 < length p.pool) (others : Scans q r) where
  pub scans_on : Scans p r
  scans_on = record {
    quiet = quiet_on first.quiet others.quiet;
    takes_no_slot = none_on first.none others.takes_no_slot;
    pool = (others.pool.0 ∙ first.pool.0, others.pool.1 ∙ first.pool.1);
    known = others.known ∙ first.known;
  }

  since_first : {since : ℕ} → Uses q r budget (before + 1) since (length q.pool - 1) →
      Uses p r budget before since (length p.pool)
  since_first uses = record {
    counts = counts_on first.counts uses.counts;
    within = uses.within;
    at_most = (let m = uses.at_most in let e = ap length first.pool.0 in omega (arith, m, e, some));
  }

  pub scanned_on : (result : Result (Option (ℕ × ℕ) × ℕ) (Refusal × ℕ)) →
      IfOk result (IsScanned q r epoch budget (before + 1) (length q.pool - 1)) →
      IfOk result (IsScanned p r epoch budget before (length p.pool))
  scanned_on (Ok told) scanned = record { uses = since_first scanned.uses; below = scanned.below }
  scanned_on (Err told) scanned = tt

  pub part_on : (result : Result (Option (ℕ × ℕ) × ℕ) (Refusal × ℕ)) →
      IfErr result (ScansPart q r budget (before + 1) (length q.pool - 1)) →
      IfErr result (ScansPart p r budget before (length p.pool))
  part_on (Ok told) part = tt
  part_on (Err told) part = record { uses = since_first part.uses; why = part.why; short = part.short }
