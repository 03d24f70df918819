-- Steps that only load a word, and passes that make no others.
use Rattle.std.specs.Prelude.{◌≡◌, ℕ, List, [], ◌∷◌}
use Rattle.vbr_machine.specs.Knowledge.{Know}
use Rattle.vbr_machine.specs.Machine.{Load, access_of}
use Rattle.vbr_machine.specs.declared.event.Event.{Event}
use Rattle.vbr_machine.specs.declared.event.Step.{Step}

-- a step is a load: whatever its pass knows, it neither stores nor exchanges a word
abbrev pub IsLoad : Step → Type 0
IsLoad step = (know : Know) → access_of know step ≡ Load

-- of these events, those of a pass are loads
abbrev pub OnlyLoadsOf : ℕ → List Event → Type 0
OnlyLoadsOf pass [] = Unit {0}
OnlyLoadsOf pass (event ∷ events) = (event.pass ≡ pass → IsLoad event.step) × OnlyLoadsOf pass events
