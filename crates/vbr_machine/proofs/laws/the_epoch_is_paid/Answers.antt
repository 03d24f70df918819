use Rattle.vbr_machine.proofs.progress.NeededAdvances.{epoch_paid}
use Rattle.vbr_machine.proofs.laws.the_epoch_is_paid.Goals as goal

pub returns : goal.returns
returns c = λ start passes run is ok need. epoch_paid start passes run is ok need
