use Rattle.vbr_list.proofs.iterations.Cursors.{given_more}
use Rattle.vbr_list.proofs.laws.an_iteration_waits.Goals as goal

pub returns : goal.returns
returns c = λ p q r k keys x more. given_more x more
