use Rattle.vbr_set.proofs.histories.MapHistories.{called_entry}
use Rattle.vbr_set.proofs.at_set.map_calls.«AtSet+Entries».insert.Goals as goal

pub returns-clause-told : goal.returns-clause-told
returns-clause-told c = called_entry c.a_run_is_a_map.ensures _ _ c.insert_entry-answer.new.pass
    c.args.budget c.insert_entry-answer.result c.law.ensures c.law-2.ensures c.insert_entry-answer.ensures
