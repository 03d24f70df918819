use Rattle.std.proofs.Common.{refl}
use Rattle.vbr_words.specs.declared.place.At.TheVariants.{Slot}
use Rattle.vbr_machine.proofs.moments.RunForms.{value_at_load}
use Rattle.vbr_machine.proofs.laws.value_at_load.Goals as goal

pub returns : goal.returns
returns c = λ start passes moment run pass s link key value is ok was k m.
    value_at_load start passes moment run is ok pass (Slot s) link was s key value refl k m
