use Rattle.vbr_machine.proofs.words.LoadsLeave.{loads_leave}
use Rattle.vbr_machine.proofs.laws.loads_leave_the_words.Goals as goal

pub returns : goal.returns
returns c = λ start w pass step place load. loads_leave start w pass step load place
