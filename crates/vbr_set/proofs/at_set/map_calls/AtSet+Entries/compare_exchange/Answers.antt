use Rattle.vbr_list.specs.updates.Outcomes.{there_in}
use Rattle.vbr_list.specs.declared.wanted.Wanted.TheVariants.{Value}
use Rattle.vbr_set.proofs.histories.MapHistories.{called_store}
use Rattle.vbr_set.proofs.at_set.map_calls.«AtSet+Entries».compare_exchange.Goals as goal

pub returns-clause-told : goal.returns-clause-told
returns-clause-told c = called_store c.a_run_is_a_map.ensures _ _ c.compare_exchange-answer.new.pass
    c.args.key c.args.value (Value c.args.expected) c.args.budget (there_in c.compare_exchange-answer.result)
    c.law.ensures c.law-2.ensures c.compare_exchange-answer.ensures.calls
