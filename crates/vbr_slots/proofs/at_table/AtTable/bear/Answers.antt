use Rattle.std.proofs.Common.{sym, ap, ◌∙◌, subst, refl}
use Rattle.std.specs.Prelude.{Contains, ◌<◌}
use Rattle.vbr_machine.specs.Start.{Start}
use Rattle.vbr_slots.specs.views.Views.{PassView}
use Rattle.vbr_slots.proofs.pools.Passes.{pool_born}
use Rattle.vbr_slots.proofs.steps.Steppers.{well_after}
use Rattle.vbr_slots.proofs.at_table.AtTable.bear.Goals as goal

pub invariant_of-stepper : goal.invariant_of-stepper
invariant_of-stepper g c =
    let p = c.stepper.inside in
    let d = c.store.ensures in
    let start = ap (λ (v : PassView). v.trace.start) c.stepper.view_is ∙ c.args.self.now.own.1 in
    well_after p d refl
    (pool_born p.runner c.store.new.runner c.args.slot _ _ p.pool.items p.hand d
    (subst (λ (s : Start). c.args.slot < s.shape.slots) (sym start) c.requires.slot)
    (subst (λ (v : PassView). ¬ (Contains v.pool c.args.slot)) (sym c.stepper.view_is) c.requires.outside)
    c.stepper.invariant.pool)
    c.stepper.invariant
