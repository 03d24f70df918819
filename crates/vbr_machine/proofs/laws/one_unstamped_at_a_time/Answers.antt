use Rattle.vbr_machine.proofs.whereabouts.UnlinkedInTurn.{in_turn_before}
use Rattle.vbr_machine.proofs.laws.one_unstamped_at_a_time.Goals as goal

pub returns : goal.returns
returns c = λ start moment run pass. in_turn_before start pass moment run
