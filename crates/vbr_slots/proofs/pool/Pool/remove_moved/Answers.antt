use Rattle.std.proofs.Common.{drop, refl, ap, ◌∙◌}
use Rattle.std.specs.List.{remove}
use Rattle.vbr_slots.specs.pools.Pools.{PoolView}
use Rattle.vbr_slots.proofs.pools.Moving.{later_left}
use Rattle.vbr_slots.proofs.pool.Pool.remove_moved.Goals as goal

pub returns : goal.returns
returns c =
    let p = c.self.inside in
    record {
      items = ap (drop p.first) c.remove.ensures.items
          ∙ later_left p.first c.args.index _ p.cells.items refl c.self.invariant.left
          ∙ ap (λ (v : PoolView). remove v.items c.args.index) c.self.view_is;
    }
