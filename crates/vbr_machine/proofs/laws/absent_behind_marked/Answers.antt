use Rattle.vbr_machine.proofs.moments.RunForms.{absent_behind_marked}
use Rattle.vbr_machine.proofs.laws.absent_behind_marked.Goals as goal

pub returns : goal.returns
returns c = λ start passes run pass place link last key is ok k m q leads i j.
    absent_behind_marked start passes run is ok pass place link last k m q leads key i j
