use Rattle.vbr_machine.specs.Incarnations.{at_opening}
use Rattle.vbr_machine.proofs.chronicles.SoundAfter.{sound_at_first}
use Rattle.vbr_machine.proofs.chronicles.ToldCalls.{tells_at_first, tells_after}
use Rattle.vbr_machine.proofs.laws.lawful_is_legal.Goals as goal

pub returns : goal.returns
returns c = λ start entries up lawful.
    tells_after start (at_opening start) entries (sound_at_first start up) (tells_at_first start up) lawful
