use Rattle.std.proofs.Common.{rules, ◌∙◌}
use Rattle.vbr_at_table.proofs.Lemmas.{kept_aside}
use Rattle.vbr_list.specs.updates.Outcomes.{there_in}
use Rattle.vbr_set.proofs.members.Balances.{changed_wants, once_in_map, removal_takes, taken}
use Rattle.vbr_set.proofs.member.map_calls.«Member+Entries».remove_if.Goals as goal

pub invariant_of-self : goal.invariant_of-self
invariant_of-self c = record {
  part = search rules;
  counted = taken once_in_map c.set.ensures c.remove_if-answer.ensures.told c.self.invariant.counted _
      (c.one_if_changed.ensures
      ∙ changed_wants c.args.expected c.remove_if-answer.result c.remove_if-answer.ensures.changed)
      (removal_takes c.self.inside.pass.trace.who c.args.key c.args.expected (there_in c.remove_if-answer.result));
  put_aside = kept_aside _ _ _ c.remove_if-answer.ensures.told.bounds.takes_no_slot.kept.aside
      c.remove_if-answer.ensures.told.same.start c.self.invariant.put_aside;
}
