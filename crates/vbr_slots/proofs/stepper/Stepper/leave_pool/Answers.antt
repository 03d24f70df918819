use Rattle.std.proofs.Common.{◌≡◌, sym, subst, ap, ◌∙◌}
use Rattle.vbr_slots.specs.pools.Pools.{OwnPool, without}
use Rattle.vbr_slots.specs.views.Views.{PassView, knows}
use Rattle.vbr_slots.proofs.pools.Leaving.{left, stays}
use Rattle.vbr_slots.proofs.pools.Pools.{leaves}
use Rattle.vbr_slots.proofs.stepper.Stepper.leave_pool.Goals as goal

pub remove-requires : goal.remove-requires
remove-requires c =
    (left c.args.slot c.in-Some.index c.self.inside.pool.items _ _ c.self.invariant.pool.apart c.as_slice.ensures.value
    c.position_in.ensures c.in-Some.is).0

gone : (c : goal.After-remove) → c.remove.new.self.items ≡ without c.args.slot c.self.inside.pool.items
gone c = c.remove.ensures.items
    ∙ (left c.args.slot c.in-Some.index c.self.inside.pool.items _ _ c.self.invariant.pool.apart
    c.as_slice.ensures.value c.position_in.ensures c.in-Some.is).1

pub invariant_of-self : goal.invariant_of-self
invariant_of-self c =
    let p = c.self.inside in
    record {
      start = c.self.invariant.start;
      pool = subst (λ xs. OwnPool p.runner.start (knows p.runner) xs p.hand) (sym (gone c))
          (leaves p.runner.start (knows p.runner) c.args.slot p.pool.items p.hand c.self.invariant.pool);
      tried = c.self.invariant.tried;
      low = c.self.invariant.low;
    }

pub returns-in-Some-clause-pool : goal.returns-in-Some-clause-pool
returns-in-Some-clause-pool c = gone c ∙ ap (λ (v : PassView). without c.args.slot v.pool) c.self.view_is

pub returns-in_default-clause-pool : goal.returns-in_default-clause-pool
returns-in_default-clause-pool c = sym (ap (λ (v : PassView). v.pool) c.self.view_is)
    ∙ stays c.args.slot c.self.inside.pool.items _ _ c.as_slice.ensures.value c.position_in.ensures c.in_default.is
    ∙ ap (λ (v : PassView). without c.args.slot v.pool) c.self.view_is
