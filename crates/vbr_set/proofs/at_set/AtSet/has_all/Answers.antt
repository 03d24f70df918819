use Rattle.vbr_machine.specs.declared.history.Op.TheVariants.{Has}
use Rattle.vbr_set.specs.calls.Members.{Called}
use Rattle.vbr_set.proofs.many_keys.InTurn.{all_at}
use Rattle.vbr_set.proofs.at_set.AtSet.has_all.Goals as goal

pub returns-clause-same : goal.returns-clause-same
returns-clause-same g c = (all_at (Called Has) _ _ _ _ _ c.look_up_all.ensures).0

pub returns-clause-told : goal.returns-clause-told
returns-clause-told g c = (all_at (Called Has) _ _ _ _ _ c.look_up_all.ensures).1
