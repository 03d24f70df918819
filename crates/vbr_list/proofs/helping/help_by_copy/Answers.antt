use Rattle.vbr_list.proofs.pieces.Going.{of_on}
use Rattle.vbr_list.proofs.helping.help_by_copy.Goals as goal

pub invariant_of-at : goal.invariant_of-at
invariant_of-at g c = record { own = of_on (c.help_apart.ensures.goes 0).quiet.same c.args.at.now.own }
