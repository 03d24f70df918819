use Rattle.std.proofs.Common.{refl, rules}
use Rattle.vbr_at_table.proofs.Lemmas.{kept_aside}
use Rattle.vbr_set.proofs.members.Balances.{kept, once_in_set}
use Rattle.vbr_set.proofs.member.records.Member.get_entry.Goals as goal

pub invariant_of-self : goal.invariant_of-self
invariant_of-self c = record {
  part = search rules;
  counted = kept once_in_set c.set.ensures c.get_entry.ensures.told.looks c.self.invariant.counted (λ entry. refl);
  put_aside = kept_aside _ _ _ c.get_entry.ensures.told.looks.bounds.takes_no_slot.kept.aside
      c.get_entry.ensures.told.looks.same.start c.self.invariant.put_aside;
}
