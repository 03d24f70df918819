-- The slot has left the pool and the hand.
use Rattle.std.proofs.Common.{◌≢◌, ℕ, List, Option, Some, sym, subst}
use Rattle.std.specs.Prelude.{Contains}
use Rattle.vbr_slots.proofs.pools.Pools.{let_gone, outside}
use Rattle.vbr_slots.proofs.at_table.AtTable.raise.Goals as goal

pub set_flag-requires-clause-outside : goal.set_flag-requires-clause-outside
set_flag-requires-clause-outside g c =
    subst (λ (xs : List ℕ). ¬ (Contains xs c.args.slot)) (sym c.leave.ensures.pool)
    (outside c.args.slot c.args.self.now.stepper.now.pool)

pub set_flag-requires-clause-apart : goal.set_flag-requires-clause-apart
set_flag-requires-clause-apart g c =
    subst (λ (h : Option ℕ). h ≢ Some c.args.slot) (sym c.leave.ensures.hand)
    (let_gone c.args.slot c.args.self.now.stepper.now.hand)
