-- The calls that a step adds to those of the world, and the calls of a pass after a run.
use Rattle.std.specs.Prelude.{ℕ, List}
use Rattle.vbr_machine.specs.Start.{Start}
use Rattle.vbr_machine.specs.History.{calls_by}
use Rattle.vbr_machine.specs.Runs.{world_after}
use Rattle.vbr_machine.specs.declared.history.Call.{Call}
use Rattle.vbr_machine.specs.declared.event.Event.{Event}

-- the calls of a pass after a run, in their order
abbrev pub own_calls : Start → List Event → ℕ → List Call
own_calls start run pass = calls_by pass (world_after start run).calls
