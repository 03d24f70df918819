use Rattle.vbr_machine.proofs.chronicles.Slots.{one_late}
use Rattle.vbr_machine.proofs.laws.one_late_incarnation.Goals as goal

pub returns : goal.returns
returns call = λ start a c d e s q bc bd lc ld. one_late s.slots c d e q lc ld bc bd
