use Rattle.vbr_set.proofs.histories.EntryCalls.{called_key_taken}
use Rattle.vbr_set.proofs.at_set.record_calls.AtSet.remove_exactly.Goals as goal

pub returns-clause-told : goal.returns-clause-told
returns-clause-told c = called_key_taken _ _ c.remove_key_exactly-answer.new.pass c.args.key
    c.args.entry.now c.args.budget c.remove_key_exactly-answer.result c.law.ensures c.law-2.ensures
    c.remove_key_exactly-answer.ensures
