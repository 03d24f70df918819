use Rattle.vbr_set.proofs.progress.AnsweredSteps.{steps_or_walks}
use Rattle.vbr_set.proofs.progressing.steps_or_walks_are_answered.Goals as goal

pub returns : goal.returns
returns c = steps_or_walks
