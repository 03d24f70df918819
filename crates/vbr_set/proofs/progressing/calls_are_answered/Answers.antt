use Rattle.vbr_set.proofs.progress.AnsweredSteps.{calls_answered}
use Rattle.vbr_set.proofs.progressing.calls_are_answered.Goals as goal

pub returns : goal.returns
returns c = calls_answered
