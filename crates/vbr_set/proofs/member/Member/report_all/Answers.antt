use Rattle.std.proofs.Common.{length, ap, arith, rules}
use Rattle.vbr_set.proofs.members.Apart.{as_many_passes}
use Rattle.vbr_set.proofs.member.Member.report_all.Goals as goal

pub put_together-members-requires-clause-members : goal.put_together-members-requires-clause-members
put_together-members-requires-clause-members g c = (
  search rules,
  (
      let same = ap (λ xs. length xs) c.report_apart-told.ensures.same in
      let many = as_many_passes c.take_apart.new.stakes.items c.take_apart.new.passes.items
      c.take_apart.ensures.parts in
      let made = ap (λ xs. length xs) c.take_apart.ensures.members in
      let room = c.in-Ok-with_capacity-2.ensures.capacity in
      let count = c.len-count.ensures in
      omega arith
      ),
)
