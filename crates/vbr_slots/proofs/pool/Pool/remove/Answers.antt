use Rattle.std.proofs.Common.{◌≡◌, ℕ, suc, ◌+◌, drop, ap, ◌∙◌, arith}
use Rattle.std.specs.List.{remove}
use Rattle.vbr_slots.specs.pools.Pools.{PoolView}
use Rattle.vbr_slots.proofs.pools.Moving.{first_left}
use Rattle.vbr_slots.proofs.pool.Pool.remove.Goals as goal

pub returns-then-index-eq0 : goal.returns-then-index-eq0
returns-then-index-eq0 c =
    let p = c.self.inside in
    let here : 0 ≡ c.args.index = omega (arith, c.if-index-eq0.true) in
    let on : p.first + 1 ≡ suc p.first = omega arith in
    record {
      items = ap (λ (n : ℕ). drop n p.cells.items) on ∙ first_left p.first p.cells.items
          ∙ ap (remove (drop p.first p.cells.items)) here
          ∙ ap (λ (v : PoolView). remove v.items c.args.index) c.self.view_is;
    }
