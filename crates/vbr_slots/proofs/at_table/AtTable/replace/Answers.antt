use Rattle.std.proofs.Common.{ℕ, ◌≢◌, refl, rules, subst, sym}
use Rattle.vbr_slots.specs.words.WideWords.{wide_in}
use Rattle.vbr_slots.specs.views.Views.{Did, PassView}
use Rattle.vbr_slots.proofs.words.WideReads.{finds_other, named_as, wide_other}
use Rattle.vbr_machine.specs.declared.event.Step.TheVariants.{Replace}
use Rattle.vbr_slots.proofs.steps.Steppers.{well_after}
use Rattle.vbr_slots.proofs.at_table.AtTable.replace.Goals as goal

pub invariant_of-stepper : goal.invariant_of-stepper
invariant_of-stepper g c = well_after c.stepper.inside c.exchange_at-found.ensures refl (search rules)
    c.stepper.invariant

pub invariant_of-stepper-else-found-expected : goal.invariant_of-stepper-else-found-expected
invariant_of-stepper-else-found-expected g c =
    let table = c.args.self.now.slots.now in
    let wide = named_as table c.layout.result c.args.expected c.wide.result c.layout.ensures.layout
    c.wide.ensures.word in
    let other : wide_in table c.exchange_at-found.result ≢ c.wide.result =
    subst (λ (word : ℕ). wide_in table c.exchange_at-found.result ≢ word) (sym wide)
    (wide_other table c.layout.result c.exchange_at-found.result c.args.expected c.layout.ensures.layout
    c.layout.ensures.few c.if-found-expected.false) in
    well_after c.stepper.inside c.exchange_at-found.ensures refl (search (rules, other)) c.stepper.invariant

pub returns-clause-other : goal.returns-clause-other
returns-clause-other g c =
    let table = c.args.self.now.slots.now in
    let found : ℕ = c.exchange_at-found.result in
    let named = named_as table c.layout.result c.args.expected c.wide.result c.layout.ensures.layout
    c.wide.ensures.word in
    finds_other table c.layout.result c.args.expected found
    (Replace c.args.slot (wide_in table c.args.expected) c.args.new) c.layout.ensures.layout c.layout.ensures.few
    c.if-found-expected.false
    (subst (λ (word : ℕ). Did (Replace c.args.slot word c.args.new) c.args.self.now.stepper.now.trace
    c.exchange_at-found.new.runner
    (wide_in table found)) named
    (subst (λ (v : PassView). Did (Replace c.args.slot c.wide.result c.args.new) v.trace c.exchange_at-found.new.runner
    (wide_in table found))
    c.stepper.view_is c.exchange_at-found.ensures))
    (search rules)
