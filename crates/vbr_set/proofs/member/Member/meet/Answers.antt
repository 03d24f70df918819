use Rattle.std.proofs.Common.{rules}
use Rattle.vbr_set.proofs.members.MembersAside.{met_aside}
use Rattle.vbr_set.proofs.member.Member.meet.Goals as goal

pub invariant_of-self : goal.invariant_of-self
invariant_of-self g c = record {
  part = search rules;
  counted = search rules;
  put_aside = met_aside _ _ _ _ c.meet.ensures.meets.step.1 c.meet.ensures.meets.pool c.self.invariant.put_aside;
}
