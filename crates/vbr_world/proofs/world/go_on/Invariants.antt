-- The events so far are a run, and the world is the one after it.
use Rattle.std.proofs.Common.{◌≡◌, length, take}
use Rattle.vbr_machine.specs.Runs.{IsRun, world_after}
use Rattle.vbr_world.specs.WorldInLists.{world_of}
use Rattle.vbr_world.proofs.world.go_on.Given as goal

abbrev pub invariant-loop-index : goal.invariant-loop-index
invariant-loop-index l = record {
  run : IsRun l.fn.world.start (length l.fn.world.passes) (take l.index l.events);
  world : world_of l.world ≡ world_after l.fn.world.start (take l.index l.events);
  start : l.world.start ≡ l.fn.world.start;
  passes : length l.world.passes ≡ length l.fn.world.passes;
}
