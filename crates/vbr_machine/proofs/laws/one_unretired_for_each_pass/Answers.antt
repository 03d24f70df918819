use Rattle.vbr_machine.proofs.whereabouts.UnretiredSlots.{unretired_few}
use Rattle.vbr_machine.proofs.laws.one_unretired_for_each_pass.Goals as goal

pub returns : goal.returns
returns c = λ start passes run is ok one. unretired_few start passes run is ok one
