use Rattle.std.proofs.Common.{rules}
use Rattle.vbr_at_table.proofs.Lemmas.{kept_aside}
use Rattle.vbr_set.proofs.members.Balances.{exchange_keeps, kept, once_in_map}
use Rattle.vbr_set.proofs.member.map_calls.«Member+Entries».compare_exchange.Goals as goal

pub invariant_of-self : goal.invariant_of-self
invariant_of-self c = record {
  part = search rules;
  counted = kept once_in_map c.set.ensures c.compare_exchange.ensures.told c.self.invariant.counted
      (exchange_keeps c.self.inside.pass.trace.who c.args.key c.args.value c.args.expected);
  put_aside = kept_aside _ _ _ c.compare_exchange.ensures.told.bounds.0.aside
      c.compare_exchange.ensures.told.same.start c.self.invariant.put_aside;
}
