use Rattle.vbr_machine.proofs.runs.RunMoments.{moment_safe}
use Rattle.vbr_machine.proofs.laws.every_moment_is_safe.Goals as goal

pub returns : goal.returns
returns c = moment_safe
