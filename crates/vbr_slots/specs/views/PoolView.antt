-- What contracts see of an own pool, and its invariant.
use Rattle.std.specs.Prelude.{◌+◌, ◌≤◌, length, drop}
use Rattle.vbr_slots.specs.declared.pool.Pool.TheInside.{Inside}
use Rattle.vbr_slots.specs.pools.Pools.{PoolView}

-- what contracts see: those that have not left
abbrev pub pool_of : Inside → PoolView
pool_of p = record { items = drop p.first p.cells.items }

-- those that have left stand in front, and no more are left than a pool may hold
pub record IsInRoom (p : Inside) : Type 0 where
  pub left : p.first ≤ length p.cells.items
  pub room : length p.cells.items ≤ p.first + 64
