-- What a call that takes a slot promises.
use Rattle.std.specs.Prelude.{◌≡◌, ℕ, ◌+◌, ◌<◌, ◌≤◌, List, [], length, get_or, ◌⊎◌}
use Rattle.vbr_machine.specs.Acceptance.{stamp_in}
use Rattle.vbr_machine.specs.Knowledge.{Know}
use Rattle.vbr_slots.specs.declared.pass.TheConstants.{POOL}
use Rattle.vbr_slots.specs.steps.Alone.{IsAlone}
use Rattle.vbr_slots.specs.steps.Calls.{Quiet}
use Rattle.vbr_slots.specs.pools.Pools.{without}
use Rattle.vbr_slots.specs.views.Views.{PassView, knows, steps_of}
use Rattle.vbr_at_table.specs.costs.Advances.{AdvancesWhereNeeded}
use Rattle.vbr_at_table.specs.costs.Budgets.{steps_to_take, steps_to_take_among}
use Rattle.vbr_at_table.specs.costs.Gained.{gained}
use Rattle.vbr_at_table.specs.hands.Hands.{HandView, IsHandOf}
use Rattle.vbr_at_table.specs.hands.KeptSlots.{KeepsSlots, SharesWhereFull, TriesWhereEmpty, WinsInNeed}
use Rattle.vbr_at_table.specs.pools.SharedPool.{CameByFlag}
use Rattle.vbr_at_table.specs.costs.WithinBudget.{TookWithin}

-- whatever is answered, no call on the set was made, and no more steps than the budget
-- No slot is lost, and at most one has left the own pool. None went into the shared pool unless the own one has no more than two places left.
-- One was looked for there only if the own pool was empty, and one flag was won at most. The epoch was advanced only if it had to be.
pub record Takes (p q : PassView) (budget : ℕ) : Type 0 where
  pub steps : TookWithin p.trace q.trace budget
  pub quiet : Quiet p.trace q.trace
  pub kept : KeepsSlots p q
  pub one : length p.pool ≤ length q.pool + 1
  pub shared : SharesWhereFull 2 p q
  pub tries : TriesWhereEmpty p q
  pub wins : WinsInNeed p q
  pub advances : AdvancesWhereNeeded p q

-- the slot stands in the pool, and each slot before it there has a stamp of at least this epoch
pub record IsOldest (know : Know) (pool : List ℕ) (slot epoch : ℕ) : Type 0 where
  pub place : ℕ
  pub low : place < length pool
  pub is : get_or pool place 0 ≡ slot
  pub before : (k : ℕ) → k < place → epoch ≤ stamp_in (know.own (get_or pool k 0))

-- the slot of the hand is in hand, born in at the epoch that the pass read last, above its stamp; and the rest of the pool stays
pub record Births (p q : PassView) (hand : HandView) : Type 0 where
  pub in_hand : IsHandOf q hand
  pub birth : hand.birth ≡ (knows q.trace).epoch
  pub above : stamp_in ((knows q.trace).own hand.slot) < hand.birth
  pub rest : q.pool ≡ without hand.slot p.pool
  pub room : length q.pool < POOL

-- the slot of the hand was taken from the own pool or the shared one, and was born in
-- It was in the own pool, where no slot before it could be born in at that epoch; or that pool was empty, and it came by a flag.
-- A pass that was alone made no more steps than that takes.
-- Nor did any other, but for one more for each slot that others took out of the shared pool, if its own was empty.
pub record IsTaken (p q : PassView) (hand : HandView) : Type 0 where
  pub from : IsOldest (knows q.trace) p.pool hand.slot hand.birth
      ⊎ ((p.pool ≡ []) × CameByFlag p.trace q.trace hand.slot)
  pub births : Births p q hand
  pub few : IsAlone p.trace q.trace → TookWithin p.trace q.trace (steps_to_take p.trace.start p.pool)
  pub among : steps_of q.trace ≤ steps_of p.trace + steps_to_take_among p.trace.start p.pool (gained p.trace q.trace)
