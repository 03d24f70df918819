use Rattle.std.proofs.Common.{refl, rules}
use Rattle.vbr_at_table.proofs.Lemmas.{kept_aside}
use Rattle.vbr_set.proofs.members.Balances.{kept, once_in_set}
use Rattle.vbr_set.proofs.member.Member.has.Goals as goal

pub invariant_of-self : goal.invariant_of-self
invariant_of-self g c = record {
  part = search rules;
  counted = kept once_in_set c.set.ensures c.has.ensures.told c.self.invariant.counted (λ reply. refl);
  put_aside = kept_aside _ _ _ c.has.ensures.told.bounds.takes_no_slot.kept.aside
      c.has.ensures.told.same.start c.self.invariant.put_aside;
}
