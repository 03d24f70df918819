use Rattle.std.proofs.Common.{◌≡◌, ◌≤◌, ◌+◌, ◌++◌, length}
use Rattle.std.specs.Vec.{vec_capacity}
use Rattle.std.specs.Vec.Iter.{into_iter_items}
use Rattle.vbr_set.specs.members.Apart.{AreParts, members_of}
use Rattle.vbr_set.proofs.member.closing_all.take_apart.Given as goal

-- the parts so far make the members so far, and there is room for those that are left
abbrev pub invariant-loop-member : goal.invariant-loop-member
invariant-loop-member g l = record {
  parts : AreParts l.stakes.items l.passes.items;
  members : members_of l.stakes.items l.passes.items ++ into_iter_items l.member-iterator ≡ l.fn.members.items;
  stakes : length l.stakes.items + length (into_iter_items l.member-iterator) ≤ vec_capacity l.stakes;
  passes : length l.passes.items + length (into_iter_items l.member-iterator) ≤ vec_capacity l.passes;
}
