use Rattle.vbr_set.proofs.progress.Progress.{look_ups_progress}
use Rattle.vbr_set.proofs.laws.look_ups_make_progress.Goals as goal

pub returns : goal.returns
returns c = look_ups_progress
