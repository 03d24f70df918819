-- The step that answers a look-up, by one more load of a link word.
use Rattle.std.specs.Prelude.{ℕ, ◌+◌, ◌*◌, Bool, true, false}
use Rattle.vbr_words.specs.declared.place.At.{At}
use Rattle.vbr_words.specs.declared.place.At.TheVariants.{Head, Slot}
use Rattle.vbr_machine.specs.declared.event.Step.{Step}
use Rattle.vbr_machine.specs.declared.event.Step.TheVariants.{ConfirmPresent, ConfirmAbsent}
use Rattle.vbr_machine.specs.declared.history.Op.TheVariants.{Has}

-- whether the key is there, the key, the place of the link word, and the word that is expected there
abbrev pub look_up : Bool → ℕ → At → ℕ → Step
look_up true key (Slot s) word = ConfirmPresent Has s word
look_up true key (Head b) word = ConfirmAbsent Has key (Head b) word
look_up false key place word = ConfirmAbsent Has key place word

-- the index of the link word at a place, if the words of slots begin at this index, and each slot has so many
abbrev pub link_from : ℕ → ℕ → At → ℕ
link_from slots words (Head b) = 2 + b
link_from slots words (Slot s) = slots + words * s
