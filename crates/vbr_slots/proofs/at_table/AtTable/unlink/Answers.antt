use Rattle.std.proofs.Common.{ℕ, rules, sym, ap, subst, refl}
use Rattle.vbr_slots.specs.words.WideWords.{wide_in}
use Rattle.vbr_slots.proofs.words.WideReads.{finds_other, named_as}
use Rattle.vbr_machine.specs.Start.{Start}
use Rattle.vbr_machine.specs.Acceptance.{Accepts}
use Rattle.vbr_machine.specs.declared.event.Step.{Step}
use Rattle.vbr_machine.specs.declared.event.Step.TheVariants.{Unlink}
use Rattle.vbr_slots.specs.views.Views.{Did, Trace, PassView, knows}
use Rattle.vbr_slots.proofs.pools.Passes.{pool_unlinked}
use Rattle.vbr_slots.proofs.steps.Steppers.{well_after}
use Rattle.vbr_slots.proofs.at_table.AtTable.unlink.Goals as goal

pub invariant_of-stepper : goal.invariant_of-stepper
invariant_of-stepper g c =
    let p = c.stepper.inside in
    let d = c.exchange_at-found.ensures in
    let wide = named_as c.args.self.now.slots.now c.layout.result c.args.expected c.wide.result c.layout.ensures.layout
    c.wide.ensures.word in
    let step : Step = Unlink c.args.pred c.wide.result c.args.slot in
    let now = c.args.self.now.stepper.now.trace in
    let ok : Accepts c.args.self.now.slots.now.start (knows now) step =
    subst (λ (word : ℕ). Accepts c.args.self.now.slots.now.start (knows now) (Unlink c.args.pred word c.args.slot))
    (sym wide) (record {
      in_shape = (c.requires.pred, c.requires.slot);
      owned = tt;
      held = c.requires.checked.held;
      in_range = c.requires.checked.in_range;
      below_last = tt;
    }) in
    let mine : Accepts now.start (knows now) step =
    subst (λ (s : Start). Accepts s (knows now) step) (sym c.args.self.now.own.1) ok in
    let accepted : Accepts p.runner.start (knows p.runner) step =
    subst (λ (t : Trace). Accepts t.start (knows t) step) (sym (ap (λ (v : PassView). v.trace) c.stepper.view_is))
    mine in
    well_after p d refl
    (pool_unlinked p.runner c.exchange_at-found.new.runner c.args.pred c.wide.result c.args.slot
    (wide_in c.args.self.now.slots.now c.exchange_at-found.result)
    p.pool.items p.hand c.stepper.invariant.start accepted d c.stepper.invariant.pool)
    c.stepper.invariant

pub returns-else-found-expected-clause-other : goal.returns-else-found-expected-clause-other
returns-else-found-expected-clause-other g c =
    let table = c.args.self.now.slots.now in
    let found : ℕ = c.exchange_at-found.result in
    let named = named_as table c.layout.result c.args.expected c.wide.result c.layout.ensures.layout
    c.wide.ensures.word in
    finds_other table c.layout.result c.args.expected found
    (Unlink c.args.pred (wide_in table c.args.expected) c.args.slot) c.layout.ensures.layout c.layout.ensures.few
    c.if-found-expected.false
    (subst (λ (word : ℕ). Did (Unlink c.args.pred word c.args.slot) c.args.self.now.stepper.now.trace
    c.exchange_at-found.new.runner
    (wide_in table found)) named
    (subst (λ (v : PassView). Did (Unlink c.args.pred c.wide.result c.args.slot) v.trace c.exchange_at-found.new.runner
    (wide_in table found))
    c.stepper.view_is c.exchange_at-found.ensures))
    (search rules)
