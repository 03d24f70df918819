-- A free slot isn't in hand.
use Rattle.vbr_slots.proofs.pools.Pools.{hand_alone, free_may}
use Rattle.vbr_slots.proofs.at_table.AtTable.raise_outside.Goals as goal

pub set_flag-requires-clause-may_bear : goal.set_flag-requires-clause-may_bear
set_flag-requires-clause-may_bear g c = free_may _ c.requires.free

pub set_flag-requires-clause-apart : goal.set_flag-requires-clause-apart
set_flag-requires-clause-apart g c = λ is. (hand_alone _ _ c.args.slot _ _ c.law.ensures.own is).0 c.requires.free
