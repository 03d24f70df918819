use Rattle.vbr_set.proofs.progress.Progress.{removes_progress}
use Rattle.vbr_set.proofs.laws.removes_make_progress.Goals as goal

pub returns : goal.returns
returns c = removes_progress
