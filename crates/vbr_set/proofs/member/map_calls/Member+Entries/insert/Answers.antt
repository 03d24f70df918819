use Rattle.std.proofs.Common.{rules}
use Rattle.vbr_at_table.proofs.Lemmas.{kept_aside}
use Rattle.vbr_set.proofs.members.Balances.{added, once_in_map, stored_adds}
use Rattle.vbr_set.proofs.member.map_calls.«Member+Entries».insert.Goals as goal

pub invariant_of-self : goal.invariant_of-self
invariant_of-self c = record {
  part = search rules;
  counted = added once_in_map c.set.ensures c.insert-answer.ensures.told c.self.invariant.counted _ c.one_if_yes.ensures
      (stored_adds c.self.inside.pass.trace.who c.args.key c.args.value c.insert-answer.result);
  put_aside = kept_aside _ _ _ c.insert-answer.ensures.told.bounds.kept.aside
      c.insert-answer.ensures.told.same.start c.self.invariant.put_aside;
}
