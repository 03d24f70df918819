use Rattle.std.proofs.Common.{rules}
use Rattle.vbr_at_table.proofs.Lemmas.{kept_aside}
use Rattle.vbr_list.specs.updates.NewValues.{sum_in}
use Rattle.vbr_set.proofs.members.Balances.{added, once_in_map, put_adds}
use Rattle.vbr_set.proofs.member.map_calls.«Member+Entries».fetch_add.Goals as goal

pub invariant_of-self : goal.invariant_of-self
invariant_of-self c = record {
  part = search rules;
  counted = added once_in_map c.set.ensures c.fetch_add-answer.ensures.told c.self.invariant.counted _
      c.one_if_wanted.ensures
      (put_adds c.self.inside.pass.trace.who c.args.key (sum_in c.args.delta c.fetch_add-answer.result)
      c.fetch_add-answer.result);
  put_aside = kept_aside _ _ _ c.fetch_add-answer.ensures.told.bounds.0.aside
      c.fetch_add-answer.ensures.told.same.start c.self.invariant.put_aside;
}
