use Rattle.vbr_machine.proofs.progress.MarkedBy.{marks_fall}
use Rattle.vbr_machine.proofs.runs.RunsGoOn.{begins_run}
use Rattle.vbr_machine.proofs.laws.marks_fall_where_one_left.Goals as goal

pub returns : goal.returns
returns c = λ start passes first run pass key is ok begins has.
    marks_fall start passes first run is ok begins (begins_run start passes first run begins ok) pass key has
