-- The calls of the ordered map, in the words of `Maps`.
use Rattle.std.proofs.Common.{rules, ◌∙◌}
use Rattle.vbr_machine.proofs.histories.AnsweredCalls.{on_err}
use Rattle.vbr_machine.proofs.histories.PlainMaps.{present_insert, absent_insert, after_insert, removed, after_remove}
use Rattle.vbr_machine.proofs.histories.PlainMaps.{looked, got}
use Rattle.vbr_machine.proofs.plain_map.PlainMap.apply.Goals as goal

pub returns-then-contains_key-clause-answers : goal.returns-then-contains_key-clause-answers
returns-then-contains_key-clause-answers c = record {
  reply = present_insert c.args.op c.args.self.now c.self.inside.entries.entries c.args.key c.contains_key.result
      c.in-Insert.is c.self.view_is c.contains_key.ensures c.if-contains_key.true;
  gives = search rules;
  stored = search rules;
  after = search rules;
}

pub returns-in_err-insert-in-Insert-clause-refused : goal.returns-in_err-insert-in-Insert-clause-refused
returns-in_err-insert-in-Insert-clause-refused c = on_err c.from_residual.result (record {
  unchanged = search rules;
  insert = c.in-Insert.is;
  absent = (absent_insert c.args.op c.args.self.now c.self.inside.entries.entries c.args.key c.contains_key.result
      c.in-Insert.is c.self.view_is c.contains_key.ensures c.if-contains_key.false).1.1;
})

pub returns-in_ok-insert-in-Insert-clause-answers : goal.returns-in_ok-insert-in-Insert-clause-answers
returns-in_ok-insert-in-Insert-clause-answers c = record {
  reply = (absent_insert c.args.op c.args.self.now c.self.inside.entries.entries c.args.key c.contains_key.result
      c.in-Insert.is c.self.view_is c.contains_key.ensures c.if-contains_key.false).0;
  gives = search rules;
  stored = search rules;
  after = after_insert c.args.op c.args.self.now c.self.inside.entries.entries c.insert.new.self.entries c.args.key
      c.args.value c.in-Insert.is c.self.view_is c.in_ok-insert-in-Insert.ensures.updates.0;
}

pub returns-in-Remove-clause-answers : goal.returns-in-Remove-clause-answers
returns-in-Remove-clause-answers c =
    let found = removed c.args.op c.args.self.now c.self.inside.entries.entries c.args.key c.remove-removed.result
    c.is_some.result c.in-Remove.is c.self.view_is c.remove-removed.ensures.value c.is_some.ensures in
    record {
      reply = found.0;
      gives = found.1;
      stored = search rules;
      after = after_remove c.args.op c.args.self.now c.self.inside.entries.entries c.remove-removed.new.self.entries
          c.args.key c.remove-removed.result c.is_some.result c.in-Remove.is c.self.view_is
          c.remove-removed.ensures.value c.is_some.ensures c.remove-removed.ensures.updates.0;
    }

pub returns-in-Has-clause-answers : goal.returns-in-Has-clause-answers
returns-in-Has-clause-answers c = record {
  reply = looked c.args.op c.args.self.now c.self.inside.entries.entries c.args.key c.contains_key-in-Has.result
      c.in-Has.is c.self.view_is c.contains_key-in-Has.ensures;
  gives = search rules;
  stored = search rules;
  after = search rules;
}

pub returns-in-Get-clause-answers : goal.returns-in-Get-clause-answers
returns-in-Get-clause-answers c =
    let found = got c.args.op c.args.self.now c.self.inside.entries.entries c.args.key c.copied-found.result
    c.is_some-in-Get.result c.in-Get.is c.self.view_is (c.copied-found.ensures ∙ c.get.ensures.value)
    c.is_some-in-Get.ensures in
    record {
      reply = found.0;
      gives = found.1;
      stored = search rules;
      after = search rules;
    }
