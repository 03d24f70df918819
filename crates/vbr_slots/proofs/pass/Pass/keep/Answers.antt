use Rattle.std.proofs.Common.{ap, ◌∙◌}
use Rattle.vbr_slots.specs.declared.pass.Pass.TheInside.{Inside}
use Rattle.vbr_slots.proofs.pools.Pools.{pool_kept}
use Rattle.vbr_slots.proofs.pass.Pass.keep.Goals as goal

pub invariant_of-self-inside : goal.invariant_of-self-inside
invariant_of-self-inside c =
    let shown = ap (λ (p : Inside). p.stepper) c.self-inside.view_is ∙ c.self.view_is in
    record {
      start = c.self-inside.invariant.start;
      pool = pool_kept c.args.slot shown c.self-inside.invariant.pool c.requires.slot c.requires.kept c.requires.outside
          c.put.ensures.pool c.put.ensures.hand;
      tried = c.self-inside.invariant.tried;
      low = c.self-inside.invariant.low;
    }
