use Rattle.vbr_machine.proofs.progress.Progress.{unlinkings_follow}
use Rattle.vbr_machine.proofs.laws.unlinkings_follow_removals.Goals as goal

pub returns : goal.returns
returns c = λ start passes run is ok. unlinkings_follow start passes run is ok
