use Rattle.vbr_set.proofs.histories.EntryCalls.{called_taken}
use Rattle.vbr_set.proofs.at_set.record_calls.«AtSet+Entries».remove_exactly.Goals as goal

pub returns-clause-told : goal.returns-clause-told
returns-clause-told c = called_taken c.a_run_is_a_map.ensures _ _ c.remove_exactly-answer.new.pass
    c.args.key c.args.entry.now c.args.budget c.remove_exactly-answer.result c.law.ensures c.law-2.ensures
    c.remove_exactly-answer.ensures
