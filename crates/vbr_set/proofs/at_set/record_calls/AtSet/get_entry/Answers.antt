use Rattle.vbr_set.proofs.histories.Histories.{called}
use Rattle.vbr_set.proofs.at_set.record_calls.AtSet.get_entry.Goals as goal

pub returns-clause-told : goal.returns-clause-told
returns-clause-told c = record {
  looks = called _ _ c.has_entry-answer.new.pass c.args.budget c.has_entry-answer.result
      c.law.ensures c.law-2.ensures c.has_entry-answer.ensures.calls;
  there = c.has_entry-answer.ensures.there;
  zero = c.has_entry-answer.ensures.zero;
}
