use Rattle.vbr_set.proofs.histories.Histories.{called}
use Rattle.vbr_set.proofs.at_set.AtSet.has.Goals as goal

pub returns-clause-told : goal.returns-clause-told
returns-clause-told g c =
    called _ _ c.has-answer.new.pass c.args.budget c.has-answer.result c.law.ensures
    c.law-2.ensures c.has-answer.ensures
