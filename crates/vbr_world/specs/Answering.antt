-- How the program makes a step: first its pass learns and its calls are kept, and then the words are written. Only contracts of private functions cite this.
use Rattle.std.specs.Prelude.{◌≡◌, ℕ, ◌<◌, ◌≤◌}
use Rattle.vbr_machine.specs.Start.{Start}
use Rattle.vbr_words.specs.declared.link.TheConstants.{MAX_VERSION}
use Rattle.vbr_machine.specs.Machine.{World, stamp_shown, with_learning, with_call}
use Rattle.vbr_machine.specs.declared.event.Event.{Event}
use Rattle.vbr_machine.specs.declared.event.Step.{Step}
use Rattle.vbr_machine.specs.declared.event.Step.TheVariants.{Advance, StoreBirth}
use Rattle.vbr_machine.specs.Making.{ahead_made, call_made}
use Rattle.vbr_world.specs.KeptLearning.{FitsFound}
use Rattle.vbr_world.specs.KeptSteps.{IsAcceptedIn, found_in}
use Rattle.vbr_world.specs.WorldInLists.{KeptWorld, world_of}

-- the pass learns from a step, and its calls are kept
abbrev pub with_answer : Start → World → ℕ → Step → World
with_answer start w p step = with_call (with_call (with_learning start w p step) (ahead_made start w p step)) (call_made start w p step)

-- a step is accepted, finds this word, and shows this stamp
pub record IsAcceptedShowing (kept : KeptWorld) (event : Event) (word stamp : ℕ) : Type 0 where
  pub accepted : IsAcceptedIn kept event
  pub found : word ≡ found_in kept event.step
  pub shown : stamp ≡ stamp_shown (world_of kept) event.step
  pub room : FitsFound event.step word

-- the words have room for what a step writes
abbrev pub WordsHaveRoom : Start → ℕ → Step → Type 0
WordsHaveRoom start epoch (Advance from) = epoch < start.shape.last_epoch
WordsHaveRoom start epoch (StoreBirth s birth) = birth ≤ MAX_VERSION
WordsHaveRoom start epoch _ = Unit {0}
