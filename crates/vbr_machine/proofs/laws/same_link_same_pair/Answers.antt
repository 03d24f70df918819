use Rattle.vbr_machine.proofs.reads.HeldReads.{same_pair, pair_last}
use Rattle.vbr_machine.proofs.laws.same_link_same_pair.Goals as goal

pub returns : goal.returns
returns call =
    λ start a e place link of names s g m q. let p = same_pair s e place link of names g m q in
    (p, pair_last s place of names p)
