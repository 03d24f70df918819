use Rattle.vbr_machine.proofs.chronicles.Slots.{late_last}
use Rattle.vbr_machine.proofs.laws.unmoved_is_last.Goals as goal

pub returns : goal.returns
returns call = λ start a c s l. late_last s.slots c l
