use Rattle.vbr_machine.proofs.moments.RunForms.{present_at_load}
use Rattle.vbr_machine.proofs.laws.present_at_load.Goals as goal

pub returns : goal.returns
returns c = λ start passes moment run pass place link key is ok was.
    present_at_load start passes moment run is ok pass place link was key
