use Rattle.vbr_list.proofs.iterations.Cursors.{given_none}
use Rattle.vbr_list.proofs.laws.an_iteration_begins.Goals as goal

pub returns : goal.returns
returns c = given_none
