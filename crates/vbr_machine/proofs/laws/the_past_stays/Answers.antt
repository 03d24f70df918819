use Rattle.vbr_machine.proofs.chronicles.Growth.{grows_after}
use Rattle.vbr_machine.proofs.laws.the_past_stays.Goals as goal

pub returns : goal.returns
returns c = grows_after
