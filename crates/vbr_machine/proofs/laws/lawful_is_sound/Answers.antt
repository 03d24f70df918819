use Rattle.vbr_machine.specs.Incarnations.{at_opening}
use Rattle.vbr_machine.specs.Opened.{opening_keys}
use Rattle.vbr_machine.proofs.chronicles.SoundAfter.{sound_at_first, sound_after}
use Rattle.vbr_machine.proofs.laws.lawful_is_sound.Goals as goal

pub returns : goal.returns
returns c = λ start entries up lawful.
    sound_after start (opening_keys start) (at_opening start) entries (sound_at_first start up) lawful
