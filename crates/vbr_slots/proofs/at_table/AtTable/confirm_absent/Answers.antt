use Rattle.std.proofs.Common.{ℕ, subst}
use Rattle.vbr_machine.specs.declared.event.Step.TheVariants.{ConfirmAbsent}
use Rattle.vbr_slots.specs.views.Views.{Did}
use Rattle.vbr_slots.specs.words.WideWords.{wide_in}
use Rattle.vbr_slots.proofs.words.WideReads.{finds_other, named_as}
use Rattle.vbr_slots.proofs.at_table.AtTable.confirm_absent.Goals as goal

pub returns-else-found-expected-clause-other : goal.returns-else-found-expected-clause-other
returns-else-found-expected-clause-other g c =
    let table = c.args.self.now.slots.now in
    let found : ℕ = c.load_at-found.result in
    finds_other table c.layout.result c.args.expected found
    (ConfirmAbsent c.args.op c.args.key c.args.holder (wide_in table c.args.expected)) c.layout.ensures.layout
    c.layout.ensures.few c.if-found-expected.false
    (subst (λ (word : ℕ). Did (ConfirmAbsent c.args.op c.args.key c.args.holder word) c.args.self.now.stepper.now.trace
    c.load_at-found.new.stepper.trace (wide_in table found))
    (named_as table c.layout.result c.args.expected c.wide.result c.layout.ensures.layout c.wide.ensures.word)
    c.load_at-found.ensures.step)
    c.load_at-found.ensures.pool
