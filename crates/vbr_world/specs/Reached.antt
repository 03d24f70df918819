-- What is always so of a world: a run led to it.
use Rattle.std.specs.Prelude.{◌≡◌, List, length}
use Rattle.vbr_machine.specs.Start.{IsStart}
use Rattle.vbr_machine.specs.Runs.{IsRun, world_after}
use Rattle.vbr_world.specs.WorldInLists.{KeptWorld, world_of}
use Rattle.vbr_machine.specs.declared.event.Event.{Event}

-- the world that the lists stand for is the one after a run
pub record IsReached (kept : KeptWorld) : Type 0 where
  pub start : IsStart kept.start
  pub run : List Event
  pub is_run : IsRun kept.start (length kept.passes) run
  pub world : world_of kept ≡ world_after kept.start run
