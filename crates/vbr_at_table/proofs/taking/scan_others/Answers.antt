use Rattle.std.proofs.Common.{rules, ◌≡◌, ◌<◌, ◌≤◌, length, get_or, refl, ap, ◌∙◌, subst, arith}
use Rattle.vbr_machine.specs.Start.{Start}
use Rattle.vbr_slots.proofs.Lemmas.{table_on}
use Rattle.vbr_at_table.proofs.steps.Counting.{no_room}
use Rattle.vbr_at_table.proofs.own_slots.Scanning.{only_first, pooled_at, scan_all, scan_found, scan_next}
use Rattle.vbr_at_table.proofs.own_slots.Scanning.{scan_short, scanned_none, scans, scans_found, some_slot}
use Rattle.vbr_at_table.proofs.taking.scan_others.Given.{Over}
use Rattle.vbr_at_table.proofs.taking.scan_others.Goals.{After-pool}
use Rattle.vbr_at_table.proofs.taking.scan_others.Goals as goal

pub loop-i-init : goal.loop-i-init
loop-i-init g c = (
  record { pass = refl; slots = refl },
  scanned_none c.args.stepper.now c.args.epoch c.args.budget c.args.used 1 c.requires.within
      (only_first c.args.stepper.now c.args.epoch c.requires.first),
)

pub returns-then-not-affords-clause-scans : goal.returns-then-not-affords-clause-scans
returns-then-not-affords-clause-scans g c =
    let same : c.stepper-then-not-affords-1.given.0 ≡ c.loop-i.at.stepper.now = search rules in
    rw same (scans c.loop-i.invariant.1)

pub returns-then-not-affords-clause-part : goal.returns-then-not-affords-clause-part
returns-then-not-affords-clause-part g c =
    let same : c.stepper-then-not-affords-1.given.0 ≡ c.loop-i.at.stepper.now = search rules in
    let then : length c.pool-i-end.result.now ≡ length c.args.stepper.now.pool =
    ap length c.pool-i-end.ensures.pool in
    let low = c.loop-i-test.true in
    rw same (scan_short c.loop-i.invariant.1 (omega arith)
    (no_room _ _ c.affords.result c.if-not-affords.true c.affords.ensures.1))

-- the slot that is looked at is one of the pool
is_low : (g : Over) (c : After-pool g) → c.loop-i.i < length c.pool.result.now
is_low g c =
    let now : length c.pool.result.now ≡ length c.args.stepper.now.pool =
    ap length (c.pool.ensures.pool ∙ c.loop-i.invariant.1.pool.0) in
    let then : length c.pool-i-end.result.now ≡ length c.args.stepper.now.pool =
    ap length c.pool-i-end.ensures.pool in
    let low = c.loop-i-test.true in
    omega arith

pub bounds-pool-i : goal.bounds-pool-i
bounds-pool-i g c = is_low g (goal.at.bounds-pool-i g c).After-pool

pub load_stamp-stamp-requires-clause-slot : goal.load_stamp-stamp-requires-clause-slot
load_stamp-stamp-requires-clause-slot g c =
    let low = is_low g (goal.at.load_stamp-stamp-requires-clause-slot g c).After-pool in
    subst (λ (s : Start). get_or c.pool.result.now c.loop-i.i 0 < s.shape.slots) c.loop-i.at.own.1
    (pooled_at c.loop-i.at.stepper.now c.pool.ensures.pool c.pool.ensures.own low).0

pub load_stamp-stamp-requires-clause-owned : goal.load_stamp-stamp-requires-clause-owned
load_stamp-stamp-requires-clause-owned g c =
    let low = is_low g (goal.at.load_stamp-stamp-requires-clause-owned g c).After-pool in
    (pooled_at c.loop-i.at.stepper.now c.pool.ensures.pool c.pool.ensures.own low).1

pub returns-then-stamp-epoch-clause-scans : goal.returns-then-stamp-epoch-clause-scans
returns-then-stamp-epoch-clause-scans g c =
    let same : c.stepper-then-stamp-epoch-1.given.0 ≡ c.load_stamp-stamp.new.self.stepper.now = search rules in
    let low = is_low g (goal.at.returns-then-stamp-epoch-clause-scans g c).After-pool in
    rw same (scans_found c.loop-i.invariant.1 c.pool.result.now c.pool.ensures.pool c.pool.ensures.own low
    (c.affords.ensures.0 c.if-not-affords.false) c.load_stamp-stamp.ensures.step c.load_stamp-stamp.ensures.known
    c.load_stamp-stamp.ensures.pool)

pub returns-then-stamp-epoch-clause-scanned : goal.returns-then-stamp-epoch-clause-scanned
returns-then-stamp-epoch-clause-scanned g c =
    let same : c.stepper-then-stamp-epoch-1.given.0 ≡ c.load_stamp-stamp.new.self.stepper.now = search rules in
    let low = is_low g (goal.at.returns-then-stamp-epoch-clause-scanned g c).After-pool in
    rw same (scan_found c.loop-i.invariant.1 c.pool.result.now c.pool.ensures.pool c.pool.ensures.own low
    (c.affords.ensures.0 c.if-not-affords.false) c.load_stamp-stamp.ensures.step c.load_stamp-stamp.ensures.known
    c.load_stamp-stamp.ensures.pool c.if-stamp-epoch.true)

pub loop-i-preserved : goal.loop-i-preserved
loop-i-preserved g c =
    let low = is_low g (goal.at.loop-i-preserved g c).After-pool in (
      table_on c.loop-i.invariant.0 c.load_stamp-stamp.ensures.table,
      scan_next c.loop-i.invariant.1 c.pool.result.now c.pool.ensures.pool c.pool.ensures.own low
          (c.affords.ensures.0 c.if-not-affords.false) c.load_stamp-stamp.ensures.step c.load_stamp-stamp.ensures.known
          c.load_stamp-stamp.ensures.pool c.if-stamp-epoch.false,
    )

pub returns-clause-scans : goal.returns-clause-scans
returns-clause-scans g c =
    let same : c.stepper-1.given.0 ≡ c.loop-i.at.stepper.now = search rules in
    rw same (scans c.loop-i.invariant.1)

pub returns-clause-scanned : goal.returns-clause-scanned
returns-clause-scanned g c =
    let same : c.stepper-1.given.0 ≡ c.loop-i.at.stepper.now = search rules in
    let then : length c.pool-i-end.result.now ≡ length c.args.stepper.now.pool =
    ap length c.pool-i-end.ensures.pool in
    let some = some_slot c.args.stepper.now.pool c.requires.some in
    let begun : 1 ≤ length c.pool-i-end.result.now = omega (arith, then, some) in
    let low = c.loop-i.auto.i-end begun in
    let all = c.loop-i-test.false in
    rw same (scan_all c.loop-i.invariant.1 (omega (arith, then, low, all)))
