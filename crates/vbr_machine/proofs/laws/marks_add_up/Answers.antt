use Rattle.vbr_machine.proofs.progress.MarkedBy.{marks_added}
use Rattle.vbr_machine.proofs.laws.marks_add_up.Goals as goal

pub returns : goal.returns
returns c = λ start passes run is ok. marks_added start passes run is ok
