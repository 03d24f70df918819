-- Safe runs.
use Rattle.vbr_machine.specs.Runs.{IsRun}
use Rattle.vbr_machine.specs.Safety.{IsSafe}
use Rattle.vbr_slots.specs.views.Views.{Trace}

-- what the pass has seen is a safe run: the calls in it, of all passes, are one legal history of a set that opened with the keys of its start, perhaps none, and each exchange that was won in it, and each checked read, was of the incarnations held
pub record HasSafeRun (p : Trace) : Type 0 where
  pub is_run : IsRun p.start p.passes p.seen
  pub safe : IsSafe p.start p.seen
