use Rattle.vbr_machine.proofs.records.Hands.{in_hand_throughout}
use Rattle.vbr_machine.proofs.record_laws.in_hand_throughout.Goals as goal

pub returns : goal.returns
returns c = in_hand_throughout
