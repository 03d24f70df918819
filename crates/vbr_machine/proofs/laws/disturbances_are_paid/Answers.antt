use Rattle.vbr_machine.proofs.progress.Progress.{disturbances_paid}
use Rattle.vbr_machine.proofs.laws.disturbances_are_paid.Goals as goal

pub returns : goal.returns
returns c = λ start passes first run who bucket is ok begins.
    disturbances_paid start passes first run is ok begins who bucket
