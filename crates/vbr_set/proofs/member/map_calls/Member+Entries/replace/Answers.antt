use Rattle.std.proofs.Common.{rules}
use Rattle.vbr_at_table.proofs.Lemmas.{kept_aside}
use Rattle.vbr_set.proofs.members.Balances.{kept, once_in_map, replace_keeps}
use Rattle.vbr_set.proofs.member.map_calls.«Member+Entries».replace.Goals as goal

pub invariant_of-self : goal.invariant_of-self
invariant_of-self c = record {
  part = search rules;
  counted = kept once_in_map c.set.ensures c.replace.ensures.told c.self.invariant.counted
      (replace_keeps c.self.inside.pass.trace.who c.args.key c.args.value);
  put_aside = kept_aside _ _ _ c.replace.ensures.told.bounds.0.aside c.replace.ensures.told.same.start
      c.self.invariant.put_aside;
}
