use Rattle.vbr_list.specs.updates.NewValues.{sum_in}
use Rattle.vbr_list.specs.declared.wanted.Wanted.TheVariants.{Anything}
use Rattle.vbr_set.proofs.histories.MapHistories.{called_store}
use Rattle.vbr_set.proofs.at_set.map_calls.«AtSet+Entries».fetch_add.Goals as goal

pub returns-clause-told : goal.returns-clause-told
returns-clause-told c = called_store c.a_run_is_a_map.ensures _ _ c.fetch_add-answer.new.pass c.args.key
    (sum_in c.args.delta c.fetch_add-answer.result) Anything c.args.budget c.fetch_add-answer.result c.law.ensures
    c.law-2.ensures c.fetch_add-answer.ensures
