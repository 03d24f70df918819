use Rattle.vbr_machine.proofs.moments.Removals.{marked_left}
use Rattle.vbr_machine.proofs.laws.removed_has_left.Goals as goal

pub returns : goal.returns
returns c = λ start passes before answered moment run pass call is ok first second third op reply calls none.
    marked_left start passes is before answered moment run pass call ok first second third op reply calls none
