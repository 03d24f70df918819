use Rattle.vbr_machine.proofs.moments.RunForms.{absent_at_load}
use Rattle.vbr_machine.proofs.laws.absent_at_load.Goals as goal

pub returns : goal.returns
returns c = λ start passes moment run pass place link key is ok was.
    absent_at_load start passes moment run is ok pass place link was key
