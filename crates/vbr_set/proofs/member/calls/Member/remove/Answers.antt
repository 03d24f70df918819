use Rattle.std.proofs.Common.{rules}
use Rattle.vbr_at_table.proofs.Lemmas.{kept_aside}
use Rattle.vbr_set.proofs.members.Balances.{once_in_set, taken, yes_takes}
use Rattle.vbr_set.proofs.member.calls.Member.remove.Goals as goal

pub invariant_of-self : goal.invariant_of-self
invariant_of-self c = record {
  part = search rules;
  counted = taken once_in_set c.set.ensures c.remove-answer.ensures.told c.self.invariant.counted _ c.one_if_yes.ensures
      (yes_takes c.self.inside.pass.trace.who c.args.key c.remove-answer.result);
  put_aside = kept_aside _ _ _ c.remove-answer.ensures.told.bounds.takes_no_slot.kept.aside
      c.remove-answer.ensures.told.same.start c.self.invariant.put_aside;
}
