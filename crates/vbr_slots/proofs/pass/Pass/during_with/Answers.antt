use Rattle.std.proofs.Common.{refl, subst, sym}
use Rattle.vbr_slots.specs.steps.Calls.{Took}
use Rattle.vbr_slots.specs.steps.Lending.{ReturnsWith}
use Rattle.vbr_slots.specs.views.Views.{PassView}
use Rattle.vbr_slots.proofs.steps.Calls.{count_on}
use Rattle.vbr_slots.proofs.pass.Pass.during_with.Goals as goal

pub invariant_of-self : goal.invariant_of-self
invariant_of-self g c =
    let worked = c.work-result in
    let gave : ReturnsWith g.W.FnOnce c.args.work c.args.self.now c.args.given worked.result worked.new.arg2 =
    record { shown = _; shows = c.self.view_is; left = _; met = worked.ensures; leaves = refl } in
    let took = c.requires.counts worked.result worked.new.arg2 gave in
    record {
      steps =
          count_on c.self.inside.steps _ _ c.self.invariant.steps c.steps_after-self-inside.ensures
          (subst (λ (v : PassView). Took v.trace worked.new.arg2.trace worked.result.1) (sym c.self.view_is) took);
    }

pub returns : goal.returns
returns g c =
    let worked = c.work-result in
    let gave : ReturnsWith g.W.FnOnce c.args.work c.args.self.now c.args.given worked.result worked.new.arg2 =
    record { shown = _; shows = c.self.view_is; left = _; met = worked.ensures; leaves = refl } in
    record { used = worked.result.1; took = c.requires.counts worked.result worked.new.arg2 gave; gave = gave }
