-- The keys from a number on are linked.
use Rattle.std.proofs.Common.{◌≡◌, ◌≤◌, length}
use Rattle.vbr_machine.specs.Start.{start_with}
use Rattle.vbr_machine.specs.Making.{opening_from}
use Rattle.vbr_world.specs.WorldInLists.{world_of}
use Rattle.vbr_world.proofs.world.lists.Lists.opened.Given as goal

abbrev pub invariant-loop-number : goal.invariant-loop-number
invariant-loop-number l = record {
  low : l.number ≤ length l.keys;
  world : world_of l.lists ≡ opening_from (start_with l.fn.shape l.keys l.values) l.number;
  start : l.lists.start ≡ start_with l.fn.shape l.keys l.values;
  passes : length l.lists.passes ≡ l.passes;
}

abbrev pub decreases-loop-number : goal.decreases-loop-number
decreases-loop-number l = l.number
