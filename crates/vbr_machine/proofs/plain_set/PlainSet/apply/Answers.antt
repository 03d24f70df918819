-- What an insert or a remove leaves at each key, from what the ordered set says of it.
use Rattle.std.proofs.Common.{rules}
use Rattle.vbr_machine.proofs.histories.AnsweredCalls.{on_err}
use Rattle.vbr_machine.proofs.histories.PlainSets.{after_insert, after_remove}
use Rattle.vbr_machine.proofs.plain_set.PlainSet.apply.Goals as goal

pub returns-in_err-insert-in-Insert-clause-refused : goal.returns-in_err-insert-in-Insert-clause-refused
returns-in_err-insert-in-Insert-clause-refused c =
    on_err c.from_residual.result (record { unchanged = search rules; insert = c.in-Insert.is; absent = search rules })

pub returns-in_ok-insert-in-Insert-clause-answers : goal.returns-in_ok-insert-in-Insert-clause-answers
returns-in_ok-insert-in-Insert-clause-answers c = record {
  reply = search rules;
  after = after_insert _ _ c.self.inside.keys.keys c.insert.new.self.keys c.args.key c.in_ok-insert-in-Insert.field-0
      c.in-Insert.is c.self.view_is c.in_ok-insert-in-Insert.ensures.added c.in_ok-insert-in-Insert.ensures.updates.0;
}

pub returns-in-Remove-clause-answers : goal.returns-in-Remove-clause-answers
returns-in-Remove-clause-answers c = record {
  reply = search rules;
  after = after_remove _ _ c.self.inside.keys.keys c.remove.new.self.keys c.args.key c.remove.result c.in-Remove.is
      c.self.view_is c.remove.ensures.test c.remove.ensures.updates.0;
}
