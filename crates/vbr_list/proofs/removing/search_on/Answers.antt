use Rattle.vbr_list.proofs.pieces.Going.{of_on}
use Rattle.vbr_list.proofs.removing.search_on.Goals as goal

pub invariant_of-at : goal.invariant_of-at
invariant_of-at g c = record { own = of_on c.search_apart.ensures.goes.quiet.same c.args.at.now.own }
