use Rattle.vbr_machine.proofs.records.Hands as hands
use Rattle.vbr_machine.proofs.record_laws.in_hand_alone.Goals as goal

pub returns : goal.returns
returns c = record { alone = hands.in_hand_alone; fresh = hands.in_hand_new }
