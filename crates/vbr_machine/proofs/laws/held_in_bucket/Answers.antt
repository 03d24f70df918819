use Rattle.vbr_machine.proofs.moments.RunForms.{held_in_bucket}
use Rattle.vbr_machine.proofs.laws.held_in_bucket.Goals as goal

pub returns : goal.returns
returns c = λ start passes run pass s bucket key is ok. held_in_bucket start passes run is ok pass s bucket key
