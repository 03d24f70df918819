use Rattle.vbr_machine.proofs.records.KeptHands.{in_hand_since_its_birth}
use Rattle.vbr_machine.proofs.record_laws.in_hand_since_its_birth.Goals as goal

pub returns : goal.returns
returns c = in_hand_since_its_birth
