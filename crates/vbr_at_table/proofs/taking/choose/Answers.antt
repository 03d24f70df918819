use Rattle.std.proofs.Common.{ℕ, ◌≡◌, ◌+◌, Option, Some, None, get_or, refl, sym, ap, ◌∙◌, subst, arith}
use Rattle.std.proofs.lemmas.Result.{err_from_is_err_and}
use Rattle.vbr_words.specs.Dimensions.{Dimensions}
use Rattle.vbr_machine.specs.Start.{Start, IsStart}
use Rattle.vbr_slots.proofs.Lemmas.{did_run}
use Rattle.vbr_slots.specs.views.Views.{Did, KeepsPool, PassView}
use Rattle.vbr_machine.specs.declared.event.Step.TheVariants.{ReadEpoch}
use Rattle.vbr_at_table.specs.pools.Pieces.{Chooses, IsChosen}
use Rattle.vbr_at_table.proofs.own_slots.Choosing.{chooses_refl, short_first, chooses_then, short_then, chosen_then}
use Rattle.vbr_at_table.proofs.own_slots.Choosing.{full_then}
use Rattle.vbr_at_table.proofs.own_slots.Choosing.{spent_then, raised_then}
use Rattle.vbr_at_table.proofs.steps.Counting.{no_room}
use Rattle.vbr_at_table.proofs.epochs.Epochs.{read_some, read_in_shape}
use Rattle.vbr_at_table.proofs.reads.Shown.{epoch_told}
use Rattle.vbr_at_table.proofs.epochs.EpochReads.{tried}
use Rattle.vbr_at_table.proofs.taking.choose.Given.{Over}
use Rattle.vbr_at_table.proofs.taking.choose.Goals.{After-pool, After-scan}
use Rattle.vbr_at_table.proofs.taking.choose.Goals as goal

none_left : (o : Option (ℕ × ℕ)) → ((x : ℕ × ℕ) → o ≡ Some x → ⊥) → o ≡ None
none_left None f = refl
none_left (Some x) f = absurd (f x refl)

-- ---- the epoch isn't read

pub returns-then-not-affords-clause-chooses : goal.returns-then-not-affords-clause-chooses
returns-then-not-affords-clause-chooses g c = chooses_refl c.args.at.now.stepper.now

pub returns-then-not-affords-clause-none : goal.returns-then-not-affords-clause-none
returns-then-not-affords-clause-none g c =
    short_first c.args.at.now.stepper.now c.args.budget c.args.used c.requires.within
    (no_room _ _ c.affords.result c.if-not-affords.true c.affords.ensures.1)

-- ---- the epoch is read, and the own pool looked through

-- so far no call was made, and no slot was lost
looked : (g : Over) (c : After-scan g) → Chooses c.args.at.now.stepper.now c.scan.new.at.stepper.now
looked g c =
    chooses_then c.args.at.now.stepper.now c.read_epoch-epoch.new.self.stepper.now c.scan.new.at.stepper.now
    c.read_epoch-epoch.result c.args.budget c.args.used c.read_epoch-epoch.ensures.step
    (c.affords.ensures.0 c.if-not-affords.false) c.read_epoch-epoch.ensures.pool c.scan.ensures.scans

pub returns-in_err-found-clause-chooses : goal.returns-in_err-found-clause-chooses
returns-in_err-found-clause-chooses g c = looked g (goal.at.returns-in_err-found-clause-chooses g c).After-scan

pub returns-in_err-found-clause-none : goal.returns-in_err-found-clause-none
returns-in_err-found-clause-none g c =
    let p = err_from_is_err_and c.from_residual.result c.from_residual.ensures.1 in
    rw (p.1, p.2)
    (short_then c.args.at.now.stepper.now c.read_epoch-epoch.new.self.stepper.now c.scan.new.at.stepper.now
    c.read_epoch-epoch.result c.args.budget c.args.used c.read_epoch-epoch.ensures.step
    (c.affords.ensures.0 c.if-not-affords.false) c.read_epoch-epoch.ensures.pool c.scan.ensures.scans _
    c.in_err-found.ensures.part)

pub returns-in-Some-clause-chooses : goal.returns-in-Some-clause-chooses
returns-in-Some-clause-chooses g c = looked g (goal.at.returns-in-Some-clause-chooses g c).After-scan

pub returns-in-Some-clause-chosen : goal.returns-in-Some-clause-chosen
returns-in-Some-clause-chosen g c =
    chosen_then c.args.at.now.stepper.now c.read_epoch-epoch.new.self.stepper.now c.scan.new.at.stepper.now
    c.read_epoch-epoch.result c.args.budget c.args.used c.read_epoch-epoch.ensures.step
    (c.affords.ensures.0 c.if-not-affords.false) c.read_epoch-epoch.ensures.pool c.scan.ensures.scans
    c.in_ok-found.found c.in_ok-found.used c.in_ok-found.ensures.scanned c.in-Some.place c.in-Some.is

pub returns-then-not-affords-2-clause-chooses : goal.returns-then-not-affords-2-clause-chooses
returns-then-not-affords-2-clause-chooses g c =
    looked g (goal.at.returns-then-not-affords-2-clause-chooses g c).After-scan

pub returns-then-not-affords-2-clause-none : goal.returns-then-not-affords-2-clause-none
returns-then-not-affords-2-clause-none g c =
    full_then c.args.at.now.stepper.now c.read_epoch-epoch.new.self.stepper.now c.scan.new.at.stepper.now
    c.read_epoch-epoch.result c.args.budget c.args.used c.read_epoch-epoch.ensures.step
    (c.affords.ensures.0 c.if-not-affords.false) c.read_epoch-epoch.ensures.pool c.scan.ensures.scans
    c.in_ok-found.found c.in_ok-found.used c.in_ok-found.ensures.scanned
    (no_room _ _ c.affords-2.result c.if-not-affords-2.true c.affords-2.ensures.1)

pub returns-then-epoch-last_epoch-clause-chooses : goal.returns-then-epoch-last_epoch-clause-chooses
returns-then-epoch-last_epoch-clause-chooses g c =
    looked g (goal.at.returns-then-epoch-last_epoch-clause-chooses g c).After-scan

pub returns-then-epoch-last_epoch-clause-none : goal.returns-then-epoch-last_epoch-clause-none
returns-then-epoch-last_epoch-clause-none g c =
    let shapes : c.scan.new.at.slots.now.start ≡ c.scan.new.at.stepper.now.trace.start = sym c.scan.new.at.own.1 in
    let last = c.if-epoch-last_epoch.true ∙ c.last_epoch.ensures.last_epoch
    ∙ ap (λ (d : Dimensions). d.last_epoch) c.shape.ensures.shape ∙ ap (λ (d : Start). d.shape.last_epoch) shapes in
    spent_then c.args.at.now.stepper.now c.read_epoch-epoch.new.self.stepper.now c.scan.new.at.stepper.now
    c.read_epoch-epoch.result c.args.budget c.args.used c.read_epoch-epoch.ensures.step
    (c.affords.ensures.0 c.if-not-affords.false) c.read_epoch-epoch.ensures.pool c.scan.ensures.scans
    c.in_ok-found.found c.in_ok-found.used c.in_ok-found.ensures.scanned
    (none_left c.in_ok-found.found c.in_default.not-Some) c.law.ensures
    c.requires.some last (c.affords-2.ensures.0 c.if-not-affords-2.false)

-- ---- the epoch is advanced, and read again

pub advance-is_won-requires-clause-some : goal.advance-is_won-requires-clause-some
advance-is_won-requires-clause-some g c =
    let q = c.read_epoch-epoch.new.self.stepper.now.trace in
    let is : IsStart q.start =
    subst IsStart (sym c.scan.new.at.own.1 ∙ c.scan.ensures.scans.quiet.same.start) c.shape.ensures.is_start in
    let told = epoch_told c.read_epoch-epoch.ensures.step in
    let some = read_some q.start q.passes q.seen q.who is (did_run c.read_epoch-epoch.ensures.step) in
    omega arith

pub advance-is_won-requires-clause-below_last : goal.advance-is_won-requires-clause-below_last
advance-is_won-requires-clause-below_last g c =
    let q = c.read_epoch-epoch.new.self.stepper.now.trace in
    let shapes : c.scan.new.at.slots.now.start ≡ q.start =
    sym c.scan.new.at.own.1 ∙ c.scan.ensures.scans.quiet.same.start in
    let is : IsStart q.start = subst IsStart shapes c.shape.ensures.is_start in
    let told = epoch_told c.read_epoch-epoch.ensures.step in
    let low = read_in_shape q.start q.passes q.seen q.who is (did_run c.read_epoch-epoch.ensures.step) in
    let last : c.last_epoch.result ≡ q.start.shape.last_epoch =
    c.last_epoch.ensures.last_epoch ∙ ap (λ (d : Dimensions). d.last_epoch) c.shape.ensures.shape
    ∙ ap (λ (d : Start). d.shape.last_epoch) shapes in
    let here : c.shape.result.last_epoch ≡ c.scan.new.at.slots.now.start.shape.last_epoch =
    ap (λ (d : Dimensions). d.last_epoch) c.shape.ensures.shape in
    let other = c.if-epoch-last_epoch.false in
    omega arith

-- the oldest slot is chosen then
raised : (g : Over) (c : After-pool g) →
    Chooses c.args.at.now.stepper.now c.read_epoch.new.self.stepper.now ×
    IsChosen c.args.at.now.stepper.now c.read_epoch.new.self.stepper.now c.args.budget c.args.used
    ((0, get_or c.pool.result.now 0 0), c.in_ok-found.used + 2)
raised g c =
    let raise = tried c.advance-is_won.result c.advance-is_won.ensures.step in
    let counted = c.count_advance.ensures in
    let last = c.read_epoch.new.self.stepper.now in
    let read = subst (λ (p : PassView). Did ReadEpoch p.trace last.trace c.read_epoch.result) counted
    c.read_epoch.ensures.step in
    let pool = subst (λ (p : PassView). KeepsPool p last) counted c.read_epoch.ensures.pool in
    raised_then c.args.at.now.stepper.now c.read_epoch-epoch.new.self.stepper.now c.scan.new.at.stepper.now
    c.read_epoch-epoch.result c.args.budget c.args.used c.read_epoch-epoch.ensures.step
    (c.affords.ensures.0 c.if-not-affords.false) c.read_epoch-epoch.ensures.pool c.scan.ensures.scans
    c.in_ok-found.found c.in_ok-found.used c.in_ok-found.ensures.scanned
    (none_left c.in_ok-found.found c.in_default.not-Some) c.law.ensures c.advance-is_won.new.self.stepper.now
    c.read_epoch.new.self.stepper.now raise.0 c.read_epoch.result raise.1 read raise.2
    pool c.requires.empty_hand c.pool.result.now c.pool.ensures.pool c.requires.some
    (c.affords-2.ensures.0 c.if-not-affords-2.false)

pub returns-clause-chooses : goal.returns-clause-chooses
returns-clause-chooses g c = (raised g (goal.at.returns-clause-chooses g c).After-pool).0

pub returns-clause-chosen : goal.returns-clause-chosen
returns-clause-chosen g c = (raised g (goal.at.returns-clause-chosen g c).After-pool).1
