-- A slot came into the own pool, or each slot was outside the shared pool, once round.
use Rattle.std.proofs.Common.{rules, ℕ, ◌≡◌, ◌<◌, ◌≤◌, sym, ◌∙◌, subst}
use Rattle.vbr_slots.proofs.Lemmas.{table_on}
use Rattle.vbr_at_table.proofs.steps.Counting.{no_room}
use Rattle.vbr_at_table.proofs.reads.PlacesInShape.{counted_slots}
use Rattle.vbr_at_table.proofs.flags.Winning.{win_next, win_round, win_done, win_probes, unwon_probes, win_short}
use Rattle.vbr_at_table.proofs.flags.Winning.{win_no_slot}
use Rattle.vbr_at_table.proofs.taking.win_shared.Given.{Over}
use Rattle.vbr_at_table.proofs.taking.win_shared.Goals.{After-slots}
use Rattle.vbr_at_table.proofs.taking.win_shared.Goals as goal

-- ---- a flag was won

pub returns-in-Ok-clause-probes : goal.returns-in-Ok-clause-probes
returns-in-Ok-clause-probes g c =
    let same : c.stepper-in-Ok-1.given.0 ≡ c.keep.new.self.stepper.now = search rules in
    rw same (win_probes c.loop-slot.invariant.1 c.requires.empty_hand c.in-Ok.ensures.taken.did
    c.in-Ok.ensures.taken.there c.in-Ok.ensures.taken.keeps c.keep.ensures.trace c.keep.ensures.pool c.keep.ensures.hand)

pub returns-in-Ok-clause-won : goal.returns-in-Ok-clause-won
returns-in-Ok-clause-won g c =
    let same : c.stepper-in-Ok-1.given.0 ≡ c.keep.new.self.stepper.now = search rules in
    rw same (win_done c.loop-slot.invariant.1 c.loop-slot-test.true
    c.requires.empty_pool c.requires.empty_hand
    (c.affords.ensures.0 c.if-not-affords.false) c.in-Ok.ensures.taken.did
    c.in-Ok.ensures.taken.there c.in-Ok.ensures.taken.keeps c.keep.ensures.trace c.keep.ensures.pool
    c.keep.ensures.hand)

-- ---- a probe found no flag

-- the slots that are counted then are those of the shape
all_slots : (g : Over) (c : After-slots g) → c.slots.result ≡ c.args.stepper.now.trace.start.shape.slots
all_slots g c =
    counted_slots c.slots.ensures.slots c.shape-in-Err.ensures.shape
    (sym c.take_flag.new.self.own.1 ∙ c.in-Err.ensures.missed.did.same.1
    ∙ c.loop-slot.invariant.1.tried.quiet.same.start)

-- the next one is slot 0 where none follows behind the last of its word;
-- and one step more is used

pub loop-slot-preserved-then-slot-slots : goal.loop-slot-preserved-then-slot-slots
loop-slot-preserved-then-slot-slots g c =
    let slots = all_slots g (goal.at.loop-slot-preserved-then-slot-slots g c).After-slots in
    let past = subst (λ (n : ℕ). n ≤ c.next_flag-slot.result) slots c.if-slot-slots.true in (
      table_on c.loop-slot.invariant.0 c.take_flag.ensures.table,
      win_round c.loop-slot.invariant.1 c.loop-slot-test.true (c.affords.ensures.0 c.if-not-affords.false)
          c.in-Err.ensures.missed.did c.in-Err.ensures.missed.missing c.next_flag-slot.ensures
          c.in-Err.ensures.missed.keeps past,
    )

pub loop-slot-preserved : goal.loop-slot-preserved
loop-slot-preserved g c =
    let slots = all_slots g (goal.at.loop-slot-preserved g c).After-slots in
    let low = subst (λ (n : ℕ). c.next_flag-slot.result < n) slots c.if-slot-slots.false in (
      table_on c.loop-slot.invariant.0 c.take_flag.ensures.table,
      win_next c.loop-slot.invariant.1 c.loop-slot-test.true (c.affords.ensures.0 c.if-not-affords.false)
          c.in-Err.ensures.missed.did c.in-Err.ensures.missed.missing c.next_flag-slot.ensures
          c.in-Err.ensures.missed.keeps low,
    )

-- ---- the budget had no room for one more, or each slot was outside, once round

pub returns-then-not-affords-clause-probes : goal.returns-then-not-affords-clause-probes
returns-then-not-affords-clause-probes g c =
    let same : c.stepper-then-not-affords-1.given.0 ≡ c.loop-slot.at.stepper.now = search rules in
    rw same (unwon_probes c.loop-slot.invariant.1)

pub returns-then-not-affords-clause-none : goal.returns-then-not-affords-clause-none
returns-then-not-affords-clause-none g c =
    let same : c.stepper-then-not-affords-1.given.0 ≡ c.loop-slot.at.stepper.now = search rules in
    rw same (win_short c.loop-slot.invariant.1 c.loop-slot-test.true
    c.requires.empty_pool
    (no_room _ _ c.affords.result c.if-not-affords.true c.affords.ensures.1))

pub returns-clause-probes : goal.returns-clause-probes
returns-clause-probes g c =
    let same : c.stepper-1.given.0 ≡ c.loop-slot.at.stepper.now = search rules in
    rw same (unwon_probes c.loop-slot.invariant.1)

pub returns-clause-none : goal.returns-clause-none
returns-clause-none g c =
    let same : c.stepper-1.given.0 ≡ c.loop-slot.at.stepper.now = search rules in
    rw same (win_no_slot c.loop-slot.invariant.1 c.loop-slot-test.false
    c.requires.empty_pool)
