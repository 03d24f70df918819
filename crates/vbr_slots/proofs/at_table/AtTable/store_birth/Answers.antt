use Rattle.std.proofs.Common.{ℕ, List, sym, subst}
use Rattle.std.specs.Prelude.{Contains}
use Rattle.vbr_slots.proofs.pools.Pools.{outside}
use Rattle.vbr_slots.proofs.at_table.AtTable.store_birth.Goals as goal

pub bear-requires-clause-outside : goal.bear-requires-clause-outside
bear-requires-clause-outside g c =
    subst (λ (xs : List ℕ). ¬ (Contains xs c.args.slot)) (sym c.leave_pool.ensures.pool)
    (outside c.args.slot c.args.self.now.stepper.now.pool)
