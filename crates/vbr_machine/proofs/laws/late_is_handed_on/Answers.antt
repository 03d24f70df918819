use Rattle.vbr_machine.proofs.laws.late_is_handed_on.Goals as goal

pub returns : goal.returns
returns call = λ start a c n e s q l. s.lists.handed c n e q l
