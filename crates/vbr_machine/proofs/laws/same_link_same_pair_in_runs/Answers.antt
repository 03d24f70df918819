use Rattle.vbr_machine.proofs.runs.RunMoments.{pair_on}
use Rattle.vbr_machine.proofs.laws.same_link_same_pair_in_runs.Goals as goal

pub returns : goal.returns
returns c = pair_on
