use Rattle.vbr_machine.proofs.moments.MarkedMoments.{absent_at_moments}
use Rattle.vbr_machine.proofs.laws.absent_at_a_moment.Goals as goal

pub returns : goal.returns
returns c = λ start passes moment run pass place link last key is ok was leads behind before.
    absent_at_moments start passes moment run is ok pass place link was key behind last leads before
