use Rattle.vbr_list.proofs.iterations.Cursors.{given_on}
use Rattle.vbr_list.proofs.laws.an_iteration_goes_on.Goals as goal

pub returns : goal.returns
returns c = λ p q r k d keys given a b x y. given_on a b x y
