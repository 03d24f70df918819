use Rattle.vbr_machine.proofs.moments.RunForms.{known_accepts, accepts_known}
use Rattle.vbr_machine.proofs.laws.known_reads_agree.Goals as goal

pub returns : goal.returns
returns c = λ start passes run pass step is ok.
    (known_accepts start passes run is ok pass step, accepts_known start passes run is ok pass step)
