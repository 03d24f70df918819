use Rattle.vbr_machine.proofs.progress.MarkedBy.{marks_follow}
use Rattle.vbr_machine.proofs.runs.RunsGoOn.{begins_run}
use Rattle.vbr_machine.proofs.laws.marks_follow_removes.Goals as goal

pub returns : goal.returns
returns c = λ start passes first run pass is ok begins.
    marks_follow start passes first run is ok begins (begins_run start passes first run begins ok) pass
