use Rattle.vbr_machine.proofs.progress.NeededAdvances.{disturbances_answered}
use Rattle.vbr_machine.proofs.laws.disturbances_are_answered.Goals as goal

pub returns : goal.returns
returns c = λ start passes first run who bucket is ok begins need.
    disturbances_answered start passes first run is ok begins need who bucket
