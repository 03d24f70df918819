use Rattle.std.proofs.Common.{rules}
use Rattle.vbr_at_table.proofs.Lemmas.{kept_aside}
use Rattle.vbr_set.proofs.members.Balances.{added, once_in_set, yes_adds}
use Rattle.vbr_set.proofs.member.calls.Member.insert.Goals as goal

pub invariant_of-self : goal.invariant_of-self
invariant_of-self c = record {
  part = search rules;
  counted = added once_in_set c.set.ensures c.insert-answer.ensures.told c.self.invariant.counted _ c.one_if_yes.ensures
      (yes_adds c.self.inside.pass.trace.who c.args.key c.insert-answer.result);
  put_aside = kept_aside _ _ _ c.insert-answer.ensures.told.bounds.kept.aside
      c.insert-answer.ensures.told.same.start c.self.invariant.put_aside;
}
