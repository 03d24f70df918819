-- The slot is stamped with the epoch that was read before.
use Rattle.std.proofs.Common.{ℕ, ◌<◌, ◌≤◌, List, length, sym, ◌∙◌, subst}
use Rattle.vbr_machine.specs.Start.{Start}
use Rattle.vbr_at_table.proofs.returns.Retirement.{retires_kept, retires_raised, unlinked_in_table}
use Rattle.vbr_at_table.proofs.retiring.retire.Goals as goal

pub returns-then-kept-clause-retires : goal.returns-then-kept-clause-retires
returns-then-kept-clause-retires g c =
    let low : length c.args.at.now.stepper.now.pool < 63 =
    subst (λ (l : List ℕ). length l < 63) c.pool.ensures.pool c.if-kept.true in
    retires_kept c.law.ensures.start c.read_epoch.ensures.step c.store_stamp.ensures.step c.read_epoch.ensures.pool
    c.store_stamp.ensures.pool c.into_slot-slot.ensures c.law.ensures.own c.requires.unlinked low
    c.keep_free.ensures.trace c.keep_free.ensures.pool c.keep_free.ensures.hand

pub returns-else-kept-clause-retires : goal.returns-else-kept-clause-retires
returns-else-kept-clause-retires g c =
    let full : 63 ≤ length c.args.at.now.stepper.now.pool =
    subst (λ (l : List ℕ). 63 ≤ length l) c.pool.ensures.pool c.if-kept.false in
    retires_raised c.law.ensures.start c.read_epoch.ensures.step c.store_stamp.ensures.step c.read_epoch.ensures.pool
    c.store_stamp.ensures.pool c.into_slot-slot.ensures c.law.ensures.own c.requires.unlinked full
    c.raise_outside.ensures.step.1 c.raise_outside.ensures.pool

pub store_stamp-requires-clause-slot : goal.store_stamp-requires-clause-slot
store_stamp-requires-clause-slot g c =
    let P : Start → Type 0 = λ start. c.into_slot-slot.result < start.shape.slots in
    subst P (sym (sym c.read_epoch.new.self.own.1 ∙ c.read_epoch.ensures.step.same.1
    ∙ c.args.at.now.own.1))
    (unlinked_in_table c.law.ensures c.args.at.now.own c.requires.unlinked c.into_slot-slot.ensures)

pub keep_free-requires-clause-slot : goal.keep_free-requires-clause-slot
keep_free-requires-clause-slot g c =
    let P : Start → Type 0 = λ start. c.into_slot-slot.result < start.shape.slots in
    subst P (sym (c.store_stamp.ensures.step.same.1 ∙ c.read_epoch.ensures.step.same.1
    ∙ c.args.at.now.own.1))
    (unlinked_in_table c.law.ensures c.args.at.now.own c.requires.unlinked c.into_slot-slot.ensures)

pub raise_outside-requires-clause-slot : goal.raise_outside-requires-clause-slot
raise_outside-requires-clause-slot g c =
    let P : Start → Type 0 = λ start. c.into_slot-slot.result < start.shape.slots in
    subst P (sym
    (sym c.store_stamp.new.self.own.1 ∙ c.store_stamp.ensures.step.same.1 ∙ c.read_epoch.ensures.step.same.1
    ∙ c.args.at.now.own.1))
    (unlinked_in_table c.law.ensures c.args.at.now.own c.requires.unlinked c.into_slot-slot.ensures)
