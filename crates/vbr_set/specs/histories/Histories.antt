-- The history that a run has, and what is right along it.
use Rattle.std.specs.Prelude.{◌≡◌, ℕ, List, ◌∷◌, ◌++◌}
use Rattle.vbr_machine.specs.Start.{Start}
use Rattle.vbr_machine.specs.Runs.{world_after}
use Rattle.vbr_machine.specs.Notes.{AreRightReads}
use Rattle.vbr_machine.specs.Accounts.{notes_after}
use Rattle.vbr_machine.specs.Safety.{IsRightAfter}
use Rattle.vbr_machine.specs.declared.event.Event.{Event}
use Rattle.vbr_machine.specs.declared.history.Call.{Call}

-- the answered calls of all passes, in their order
abbrev pub calls_of : Start → List Event → List Call
calls_of start run = (world_after start run).calls

-- each exchange of a link that was won named the last incarnations of their slots, and was lawful for them: none succeeded through a link to an earlier incarnation
abbrev pub ExchangesAreRight : Start → List Event → Type 0
ExchangesAreRight start run = (before after : List Event) (event : Event) → run ≡ before ++ event ∷ after → IsRightAfter start before event

-- at each moment, each checked read of each pass was of the incarnation that the pass holds there, with its link, birth or key: none returned a link, birth or key of an earlier incarnation
abbrev pub ReadsAreRight : Start → List Event → Type 0
ReadsAreRight start run = (before after : List Event) (pass : ℕ) → run ≡ before ++ after → AreRightReads (notes_after start before pass).checked
