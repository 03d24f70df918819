use Rattle.std.proofs.Common.{◌≢◌, Some, sym, subst, refl}
use Rattle.std.specs.Prelude.{Contains}
use Rattle.vbr_slots.specs.views.Views.{PassView}
use Rattle.vbr_slots.proofs.pools.Passes.{pool_raised}
use Rattle.vbr_slots.proofs.steps.Steppers.{well_after}
use Rattle.vbr_slots.proofs.at_table.AtTable.set_flag.Goals as goal

pub invariant_of-stepper : goal.invariant_of-stepper
invariant_of-stepper g c =
    let p = c.stepper.inside in
    let d = c.fetch_or.ensures in
    well_after p d refl
    (pool_raised p.runner c.fetch_or.new.runner c.args.slot c.fetch_or.result p.pool.items p.hand d
    (subst (λ (v : PassView). ¬ (Contains v.pool c.args.slot)) (sym c.stepper.view_is) c.requires.outside)
    (subst (λ (v : PassView). v.hand ≢ Some c.args.slot) (sym c.stepper.view_is) c.requires.apart)
    c.stepper.invariant.pool)
    c.stepper.invariant
