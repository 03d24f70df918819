use Rattle.vbr_machine.proofs.progress.NeededAdvances.{advances_paid}
use Rattle.vbr_machine.proofs.laws.advances_are_paid.Goals as goal

pub returns : goal.returns
returns c = λ start passes first run is ok begins need. advances_paid start passes first run is ok begins need
