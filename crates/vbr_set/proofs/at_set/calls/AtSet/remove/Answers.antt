use Rattle.vbr_set.proofs.histories.Histories.{called}
use Rattle.vbr_set.proofs.at_set.calls.AtSet.remove.Goals as goal

pub returns-clause-told : goal.returns-clause-told
returns-clause-told c = called _ _ c.remove-answer.new.pass c.args.budget c.remove-answer.result
    c.law.ensures c.law-2.ensures c.remove-answer.ensures
