-- What the steps that exchange or confirm a link word ask of the pass, beside places of the shape.
use Rattle.std.specs.Prelude.{◌≡◌, ℕ}
use Rattle.vbr_words.specs.Words.{word_of}
use Rattle.vbr_machine.specs.Acceptance.{HasChecked, IsInRange}
use Rattle.vbr_machine.specs.Learning.{link_written}
use Rattle.vbr_machine.specs.declared.event.Step.{Step}
use Rattle.vbr_slots.specs.views.Views.{TableView, Trace, knows}

-- the reads that the machine asks for are checked, and the step's numbers are in range
pub record IsChecked (t : TableView) (p : Trace) (step : Step) : Type 0 where
  pub held : HasChecked t.start (knows p) step
  pub in_range : IsInRange t.start (knows p) step

-- the word is the link word that the step writes, from what the pass knows
abbrev pub IsWritten : Trace → Step → ℕ → Type 0
IsWritten p step word = word ≡ word_of (link_written (knows p) step)
