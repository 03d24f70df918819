use Rattle.vbr_machine.proofs.moments.RunForms.{confirmed_present, confirmed_absent}
use Rattle.vbr_machine.proofs.laws.confirmed_at_load.Goals as goal

pub returns : goal.returns
returns c = λ start passes run pass op s key place expected is ok. (
  (λ accepts q k. confirmed_present start passes run is ok pass op s expected key accepts q k),
  (λ accepts q. confirmed_absent start passes run is ok pass op key place expected accepts q),
)
