use Rattle.vbr_set.proofs.histories.MapHistories.{called_entry}
use Rattle.vbr_set.proofs.at_set.record_calls.«AtSet+Entries».get_entry.Goals as goal

pub returns-clause-told : goal.returns-clause-told
returns-clause-told c = record {
  gets = called_entry c.a_run_is_a_map.ensures _ _ c.get_entry-answer.new.pass c.args.budget
      c.get_entry-answer.result c.law.ensures c.law-2.ensures c.get_entry-answer.ensures.calls;
  there = c.get_entry-answer.ensures.there;
}
