use Rattle.vbr_machine.proofs.runs.RunMoments.{holds_last}
use Rattle.vbr_machine.proofs.laws.unmoved_is_last_in_runs.Goals as goal

pub returns : goal.returns
returns c = holds_last
