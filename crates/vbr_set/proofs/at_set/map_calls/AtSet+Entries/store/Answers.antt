use Rattle.vbr_set.proofs.histories.MapHistories.{called_store}
use Rattle.vbr_set.proofs.at_set.map_calls.«AtSet+Entries».store.Goals as goal

pub returns-clause-told : goal.returns-clause-told
returns-clause-told c = called_store c.a_run_is_a_map.ensures _ _ c.store-answer.new.pass c.args.key
    c.args.value c.args.wanted c.args.budget c.store-answer.result c.law.ensures c.law-2.ensures c.store-answer.ensures
