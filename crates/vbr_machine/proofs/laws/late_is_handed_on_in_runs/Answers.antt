use Rattle.vbr_machine.proofs.runs.RunMoments.{late_on}
use Rattle.vbr_machine.proofs.laws.late_is_handed_on_in_runs.Goals as goal

pub returns : goal.returns
returns c = late_on
