use Rattle.vbr_list.specs.updates.Outcomes.{there_in}
use Rattle.vbr_set.proofs.histories.MapHistories.{called_entry}
use Rattle.vbr_set.proofs.at_set.map_calls.«AtSet+Entries».remove_if.Goals as goal

pub returns-clause-told : goal.returns-clause-told
returns-clause-told c = called_entry c.a_run_is_a_map.ensures _ _ c.remove_if-answer.new.pass
    c.args.budget (there_in c.remove_if-answer.result) c.law.ensures c.law-2.ensures c.remove_if-answer.ensures.calls
