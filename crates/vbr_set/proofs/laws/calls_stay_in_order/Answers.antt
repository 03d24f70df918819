use Rattle.vbr_set.proofs.histories.CatchingUp.{in_order}
use Rattle.vbr_set.proofs.laws.calls_stay_in_order.Goals as goal

pub returns : goal.returns
returns c = in_order
