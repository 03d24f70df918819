use Rattle.vbr_set.specs.calls.MapCalls.{GetsEntry}
use Rattle.vbr_set.proofs.many_keys.InTurn.{all_at}
use Rattle.vbr_set.proofs.at_set.batches.AtSet+Entries.get_all.Goals as goal

pub returns-clause-same : goal.returns-clause-same
returns-clause-same c = (all_at GetsEntry _ _ _ _ _ c.look_up_all.ensures).0

pub returns-clause-told : goal.returns-clause-told
returns-clause-told c = (all_at GetsEntry _ _ _ _ _ c.look_up_all.ensures).1
