use Rattle.std.proofs.Common.{◌≡◌, ◌≤◌, ◌+◌, ◌++◌, length}
use Rattle.std.specs.Vec.{vec_capacity}
use Rattle.std.specs.Vec.Iter.{into_iter_items}
use Rattle.vbr_set.specs.members.Apart.{AreParts, members_of}
use Rattle.vbr_set.proofs.member.closing_all.put_together.Given as goal

-- the members so far are those of the parts so far, and there is a stake and room for each pass that is left
abbrev pub invariant-loop-pass : goal.invariant-loop-pass
invariant-loop-pass g l = record {
  parts : AreParts (into_iter_items l.stakes) (into_iter_items l.pass-iterator);
  made : l.members.items ++ members_of (into_iter_items l.stakes) (into_iter_items l.pass-iterator)
      ≡ members_of l.fn.stakes.items l.fn.passes.items;
  room : length l.members.items + length (into_iter_items l.pass-iterator) ≤ vec_capacity l.members;
}
