use Rattle.std.proofs.Common.{refl, rules}
use Rattle.vbr_at_table.proofs.Lemmas.{kept_aside}
use Rattle.vbr_set.proofs.members.Balances.{kept, once_in_map}
use Rattle.vbr_set.proofs.member.records.«Member+Entries».get_entry.Goals as goal

pub invariant_of-self : goal.invariant_of-self
invariant_of-self c = record {
  part = search rules;
  counted = kept once_in_map c.set.ensures c.get_entry.ensures.told.gets c.self.invariant.counted (λ given. refl);
  put_aside = kept_aside _ _ _ c.get_entry.ensures.told.gets.bounds.takes_no_slot.kept.aside
      c.get_entry.ensures.told.gets.same.start c.self.invariant.put_aside;
}
