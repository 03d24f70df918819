-- What always holds of a pass.
use Rattle.std.specs.Prelude.{◌<◌, ◌≤◌, length}
use Rattle.vbr_machine.specs.Start.{IsStart}
use Rattle.vbr_machine.specs.Runs.{IsRun}
use Rattle.vbr_machine.specs.Safety.{IsSafe}
use Rattle.vbr_slots.specs.pools.Pools.{OwnPool}
use Rattle.vbr_slots.specs.declared.pass.TheConstants.{POOL}
use Rattle.vbr_slots.specs.views.Views.{PassView, knows}

-- what the pass has seen is a safe run from a start, by a pass of that number
-- So the calls in it, of all passes, are one legal history of a set; and each exchange that was won in it, and each checked read, was of the incarnations held.
-- What the pass knows of its slots agrees with its pool and its hand. Its pool has no more slots than it has room for.
pub record PassLaw (p : PassView) : Type 0 where
  pub start : IsStart p.trace.start
  pub low : p.trace.who < p.trace.passes
  pub is_run : IsRun p.trace.start p.trace.passes p.trace.seen
  pub own : OwnPool p.trace.start (knows p.trace) p.pool p.hand
  pub room : length p.pool ≤ POOL
  pub safe : IsSafe p.trace.start p.trace.seen
