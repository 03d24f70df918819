use Rattle.vbr_list.specs.declared.wanted.Wanted.TheVariants.{Anything}
use Rattle.vbr_set.proofs.histories.MapHistories.{called_store}
use Rattle.vbr_set.proofs.at_set.map_calls.«AtSet+Entries».put.Goals as goal

pub returns-clause-told : goal.returns-clause-told
returns-clause-told c = called_store c.a_run_is_a_map.ensures _ _ c.put-answer.new.pass c.args.key
    c.args.value Anything c.args.budget c.put-answer.result c.law.ensures c.law-2.ensures c.put-answer.ensures
