use Rattle.vbr_machine.proofs.reads.NamedKeys.{between_accepted}
use Rattle.vbr_machine.proofs.laws.between_is_accepted.Goals as goal

pub returns : goal.returns
returns c = λ start know op key place expected inside not between.
    between_accepted start know op key place expected inside not between
