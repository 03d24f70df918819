-- What is enough without a slot, by the shape of the table and the number of passes alone.
use Rattle.std.proofs.Common.{ℕ, ◌+◌, ◌*◌, ◌≤◌, List, [], ◌∷◌, arith}
use Rattle.std.proofs.lemmas.Nat.{mul-le}
use Rattle.vbr_machine.specs.Start.{Start}
use Rattle.vbr_at_table.specs.costs.Budgets.{most_to_take_among}
use Rattle.vbr_list.specs.calls.Budgets.{listed_for}
use Rattle.vbr_list.specs.traversals.Disturbed.{enough_to_store_among}
use Rattle.vbr_list.specs.updates.Wanted.{steps_to_compare}
use Rattle.vbr_set.specs.progress.Progressing.{most_unanswered}
use Rattle.vbr_set.specs.progress.Winning.{ShapesTellWithoutSlots, known_steps_for_slot, known_steps_to_prepare}
use Rattle.vbr_set.specs.progress.Winning.{most_gained}
use Rattle.vbr_set.proofs.progress.EnoughByShape.{insert_low, nodes_low, times_low}

-- an empty own pool is the worst
taking_most : (start : Start) (pool : List ℕ) (gains : ℕ) →
    most_to_take_among start pool gains ≤ most_to_take_among start [] gains
taking_most start [] gains = omega arith
taking_most start (slot ∷ pool) gains = omega arith

store_low : (nodes times most_nodes most taking most_taking : ℕ) → nodes ≤ most_nodes → times ≤ most →
    taking ≤ most_taking → enough_to_store_among nodes times taking ≤ enough_to_store_among most_nodes most most_taking
store_low nodes times most_nodes most taking most_taking few low fewer =
    let x = mul-le times (9 * (nodes + times) + 12) most (9 * (most_nodes + most) + 12) low (omega (arith, few, low)) in
    omega (arith, x, few, low, fewer)

pub shapes_tell_without : ShapesTellWithoutSlots
shapes_tell_without =
    record {
      insert = λ p beyond key.
          (let low = insert_low (listed_for p.trace key) (most_unanswered p.trace) p.trace.start.shape.slots
          (2 * p.trace.start.shape.slots + 1) (known_steps_for_slot p beyond) (nodes_low p key) (times_low p) in
          let most = taking_most p.trace.start p.pool (most_gained p.trace beyond) in
          omega (arith, low, most));
      store = λ p wanted beyond key.
          store_low (listed_for p.trace key) (most_unanswered p.trace) p.trace.start.shape.slots
          (2 * p.trace.start.shape.slots + 1) (known_steps_to_prepare wanted p beyond)
          (most_to_take_among p.trace.start [] (most_gained p.trace beyond) + steps_to_compare wanted)
          (nodes_low p key) (times_low p)
          (let most = taking_most p.trace.start p.pool (most_gained p.trace beyond) in omega (arith, most));
    }
