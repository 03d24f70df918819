use Rattle.vbr_machine.proofs.runs.SafeRuns.{every_run}
use Rattle.vbr_machine.proofs.laws.every_run_is_safe.Goals as goal

pub returns : goal.returns
returns c = every_run
