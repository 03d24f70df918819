-- Links that were shown at an earlier moment of a run.
use Rattle.std.specs.Prelude.{◌≡◌, ℕ, false, List}
use Rattle.vbr_machine.specs.Start.{Start}
use Rattle.vbr_words.specs.declared.link.Link.{Link}
use Rattle.vbr_words.specs.declared.place.At.{At}
use Rattle.vbr_machine.specs.History.{set_after}
use Rattle.vbr_machine.specs.Membership.{Knows, IsHeldPlace}
use Rattle.vbr_machine.specs.Opened.{opening_keys}
use Rattle.vbr_machine.specs.Machine.{link_at}
use Rattle.vbr_machine.specs.Runs.{world_after, know_after, Begins}
use Rattle.vbr_machine.specs.declared.event.Event.{Event}
use Rattle.vbr_machine.specs.declared.knowledge.Read.TheVariants.{LinkAt}

-- an unmarked link that a pass knows after a run was shown at its place at a moment of the run: the pass held the place then, in the epoch that it still has
pub record WasShown (start : Start) (moment run : List Event) (pass : ℕ) (place : At) (link : Link) : Type 0 where
  pub begins : Begins moment run
  pub epoch : (know_after start moment pass).epoch ≡ (know_after start run pass).epoch
  pub held : IsHeldPlace (know_after start moment pass) place
  pub shown : link_at (world_after start moment) place ≡ link
  pub known : Knows (know_after start run pass) (LinkAt place link)
  pub unmarked : link.mark ≡ false

-- between a moment of a run and its end there was one at which a key wasn't in the set
pub record WasAbsent (start : Start) (moment run : List Event) (key : ℕ) : Type 0 where
  pub between : List Event
  pub from : Begins moment between
  pub to : Begins between run
  pub absent : set_after (opening_keys start) (world_after start between).calls key ≡ false
