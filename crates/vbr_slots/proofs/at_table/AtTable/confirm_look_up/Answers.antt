use Rattle.std.proofs.Common.{ap, rules, subst, ◌∙◌}
use Rattle.vbr_machine.specs.declared.event.Step.{Step}
use Rattle.vbr_slots.specs.steps.LookUpStep.{look_up}
use Rattle.vbr_slots.specs.views.Views.{Did}
use Rattle.vbr_slots.specs.words.WideWords.{wide_in}
use Rattle.vbr_slots.proofs.words.WideReads.{finds_other, named_as}
use Rattle.vbr_slots.proofs.at_table.AtTable.confirm_look_up.Goals as goal

pub returns-else-found-expected-clause-other : goal.returns-else-found-expected-clause-other
returns-else-found-expected-clause-other g c =
    let table = c.args.self.now.slots.now in
    let found = c.load_at-found.result in
    let named = named_as table c.layout.result c.args.expected c.wide.result c.layout.ensures.layout
    c.wide.ensures.word in
    finds_other table c.layout.result c.args.expected found
    (look_up c.args.present c.args.key c.args.holder (wide_in table c.args.expected)) c.layout.ensures.layout
    c.layout.ensures.few c.if-found-expected.false
    (subst (λ (step : Step). Did step c.args.self.now.stepper.now.trace c.load_at-found.new.stepper.trace
    (wide_in table found))
    (c.step_of_look_up-step.ensures ∙ ap (look_up c.args.present c.args.key c.args.holder) named)
    c.load_at-found.ensures.step)
    (search rules)
