-- The stamp is that of the opening, and the birth is the epoch that was read.
use Rattle.std.proofs.Common.{◌∙◌}
use Rattle.vbr_table_tests.proofs.running_table.OnePass.{below}
use Rattle.vbr_table_tests.proofs.running_table.OwnedSlots.{born_birth, free_may_bear}
use Rattle.vbr_table_tests.proofs.running_table.bear_alone.Goals as goal

pub store_birth-requires-clause-may_bear : goal.store_birth-requires-clause-may_bear
store_birth-requires-clause-may_bear g c = free_may_bear _ c.take_first.ensures.free

pub store_birth-requires-clause-above_stamp : goal.store_birth-requires-clause-above_stamp
store_birth-requires-clause-above_stamp g c =
    below _ _ (c.take_first.ensures.alone (c.requires.new, c.requires.alone)) c.take_first.ensures.epoch

pub returns-clause-birth : goal.returns-clause-birth
returns-clause-birth g c =
    born_birth c.take_first.new.pass.trace c.store_birth.new.pass.trace 0 _ _ c.store_birth.ensures.did
    ∙ c.take_first.ensures.epoch
