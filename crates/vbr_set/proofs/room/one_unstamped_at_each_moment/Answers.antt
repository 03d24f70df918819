use Rattle.vbr_machine.proofs.Lemmas.{in_turn_before}
use Rattle.vbr_set.proofs.room.one_unstamped_at_each_moment.Goals as goal

pub returns : goal.returns
returns c = λ p moment turn begins. in_turn_before p.start p.who moment p.seen begins turn
