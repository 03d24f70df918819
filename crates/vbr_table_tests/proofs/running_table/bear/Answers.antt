-- The slot stays free, its stamp is the one that was loaded, and its birth is the epoch that was read.
use Rattle.std.proofs.Common.{◌≡◌, ◌∙◌, sym, ap, subst, rules}
use Rattle.vbr_machine.specs.Acceptance.{MayBear, stamp_in}
use Rattle.vbr_table_tests.proofs.running_table.OnePass.{below}
use Rattle.vbr_table_tests.proofs.running_table.OwnedSlots.{born_birth, free_is_some, free_may_bear, loaded_epoch}
use Rattle.vbr_table_tests.proofs.running_table.OwnedSlots.{loaded_own}
use Rattle.vbr_table_tests.proofs.running_table.bear.Goals as goal

pub load_stamp-requires-clause-owned : goal.load_stamp-requires-clause-owned
load_stamp-requires-clause-owned g c = free_is_some _ c.take_first.ensures.free

pub store_birth-requires-clause-may_bear : goal.store_birth-requires-clause-may_bear
store_birth-requires-clause-may_bear g c =
    subst MayBear
    (sym (loaded_own c.take_first.new.pass.trace c.load_stamp.new.pass.trace 0 0 _ c.load_stamp.ensures.step))
    (free_may_bear _ c.take_first.ensures.free)

pub store_birth-requires-clause-above_stamp : goal.store_birth-requires-clause-above_stamp
store_birth-requires-clause-above_stamp g c =
    let zero : c.load_stamp.result ≡ 0 = search rules in
    below _ _
    (ap stamp_in (loaded_own c.take_first.new.pass.trace c.load_stamp.new.pass.trace 0 0 _ c.load_stamp.ensures.step)
    ∙ sym (c.load_stamp.ensures.known (free_may_bear _ c.take_first.ensures.free)) ∙ zero)
    (loaded_epoch c.take_first.new.pass.trace c.load_stamp.new.pass.trace 0 _ c.load_stamp.ensures.step
    ∙ c.take_first.ensures.epoch)

pub returns-clause-birth : goal.returns-clause-birth
returns-clause-birth g c =
    born_birth c.load_stamp.new.pass.trace c.store_birth.new.pass.trace 0 _ _ c.store_birth.ensures.did
    ∙ loaded_epoch c.take_first.new.pass.trace c.load_stamp.new.pass.trace 0 _ c.load_stamp.ensures.step
    ∙ c.take_first.ensures.epoch
