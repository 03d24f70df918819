use Rattle.std.proofs.Common.{ℕ, ◌≡◌, true, sym, ap, subst, rules, ◌∙◌}
use Rattle.vbr_words.specs.Packing.{unpacked}
use Rattle.vbr_words.specs.Words.{word_of, link_of}
use Rattle.vbr_words.proofs.Lemmas.{word_of-link_of}
use Rattle.vbr_machine.specs.Machine.{Exchange}
use Rattle.vbr_machine.specs.declared.event.Step.TheVariants.{Mark}
use Rattle.vbr_slots.specs.views.Views.{Did, PassView}
use Rattle.vbr_slots.specs.words.WideWords.{wide_in}
use Rattle.vbr_slots.proofs.steps.Steppers.{stays_well}
use Rattle.vbr_slots.proofs.words.WideReads.{finds_other, named_as}
use Rattle.vbr_slots.proofs.at_table.AtTable.mark.Goals as goal

pub invariant_of-stepper : goal.invariant_of-stepper
invariant_of-stepper g c = stays_well c.stepper.inside c.exchange_at-found.ensures tt c.stepper.invariant

pub exchange_at-found-requires-clause-access : goal.exchange_at-found-requires-clause-access
exchange_at-found-requires-clause-access g c =
    let table = c.args.self.now.slots.now in
    let wide = named_as table c.layout.result c.args.expected c.wide.result c.layout.ensures.layout
    c.wide.ensures.word in
    let marked : word_of (record (link_of (unpacked c.layout-2.result c.args.expected)) { mark = true })
    ≡ unpacked c.layout-2.result c.with_mark-marked.result =
    ap word_of (sym c.with_mark-marked.ensures) ∙ word_of-link_of _ in
    (λ i. Exchange (wide i) (word_of (record (link_of (wide i)) { mark = true })))
    ∙ (λ i. Exchange (wide_in table c.args.expected)
    ((ap (λ (b : ℕ). word_of (record (link_of (unpacked b c.args.expected)) { mark = true }))
    (sym c.layout-2.ensures.layout) ∙ marked
    ∙ ap (λ (b : ℕ). unpacked b c.with_mark-marked.result) c.layout-2.ensures.layout) i))

pub returns-else-found-expected-clause-other : goal.returns-else-found-expected-clause-other
returns-else-found-expected-clause-other g c =
    let table = c.args.self.now.slots.now in
    let found : ℕ = c.exchange_at-found.result in
    finds_other table c.layout.result c.args.expected found (Mark c.args.slot (wide_in table c.args.expected))
    c.layout.ensures.layout c.layout.ensures.few c.if-found-expected.false
    (subst (λ (word : ℕ). Did (Mark c.args.slot word) c.args.self.now.stepper.now.trace
    c.exchange_at-found.new.runner (wide_in table found))
    (named_as table c.layout.result c.args.expected c.wide.result c.layout.ensures.layout c.wide.ensures.word)
    (subst (λ (v : PassView). Did (Mark c.args.slot c.wide.result) v.trace c.exchange_at-found.new.runner
    (wide_in table found)) c.stepper.view_is c.exchange_at-found.ensures))
    (search rules)
