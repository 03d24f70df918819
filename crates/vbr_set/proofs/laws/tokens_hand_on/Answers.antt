use Rattle.vbr_set.proofs.histories.CatchingUp.{handed_on}
use Rattle.vbr_set.proofs.laws.tokens_hand_on.Goals as goal

pub returns : goal.returns
returns c = handed_on
