use Rattle.std.proofs.Common.{◌≡◌, sym, subst, ap, ◌∙◌}
use Rattle.std.specs.Prelude.{◌<◌, length, get_or}
use Rattle.vbr_slots.specs.pools.Pools.{OwnPool, without}
use Rattle.vbr_slots.specs.views.Views.{PassView, knows}
use Rattle.vbr_slots.proofs.pools.Leaving.{at_place}
use Rattle.vbr_slots.proofs.pools.Pools.{leaves}
use Rattle.vbr_slots.proofs.stepper.Stepper.leave_place.Goals as goal

pub remove-requires : goal.remove-requires
remove-requires c =
    subst (λ (v : PassView). c.args.index < length v.pool) (sym c.self.view_is) c.requires.place

gone : (c : goal.After-remove) → c.remove.new.self.items ≡ without c.args.slot c.self.inside.pool.items
gone c = c.remove.ensures.items
    ∙ at_place c.args.slot c.self.inside.pool.items c.args.index c.self.invariant.pool.apart
    (subst (λ (v : PassView). c.args.index < length v.pool) (sym c.self.view_is) c.requires.place)
    (subst (λ (v : PassView). get_or v.pool c.args.index 0 ≡ c.args.slot) (sym c.self.view_is) c.requires.slot)

pub invariant_of-self : goal.invariant_of-self
invariant_of-self c =
    let p = c.self.inside in
    record {
      start = c.self.invariant.start;
      pool = subst (λ xs. OwnPool p.runner.start (knows p.runner) xs p.hand) (sym (gone c))
          (leaves p.runner.start (knows p.runner) c.args.slot p.pool.items p.hand c.self.invariant.pool);
      tried = c.self.invariant.tried;
      low = c.self.invariant.low;
    }

pub returns-clause-pool : goal.returns-clause-pool
returns-clause-pool c = gone c ∙ ap (λ (v : PassView). without c.args.slot v.pool) c.self.view_is
