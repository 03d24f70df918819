-- One more slot was raised, and in the end each.
use Rattle.vbr_slots.proofs.Lemmas.{table_on}
use Rattle.vbr_at_table.proofs.own_slots.GivingSlotsBack.{giving_on, giving_one, oldest_there}
use Rattle.vbr_at_table.proofs.giving_slots_back.give_slots_back.Goals as goal

pub loop-preserved : goal.loop-preserved
loop-preserved g c = (
  table_on c.loop.invariant.0 c.raise.ensures.table,
  giving_on c.loop.counter 1 c.loop.invariant.1
      (giving_one c.law.ensures
      (oldest_there _ c.loop.invariant.1 c.pool.ensures.pool c.pool-in-loop.ensures.pool c.loop-test.true)
      c.raise.ensures.step.1 c.raise.ensures.pool c.raise.ensures.hand),
)
