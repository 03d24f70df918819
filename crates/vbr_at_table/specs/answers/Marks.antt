-- What a won mark leaves, whatever other passes did before it.
use Rattle.std.specs.Prelude.{◌≡◌, ◌≢◌, ℕ, List}
use Rattle.vbr_words.specs.declared.place.At.{At}
use Rattle.vbr_machine.specs.Accounts.{incarnations_after}
use Rattle.vbr_machine.specs.Disturbances.{own_changes}
use Rattle.vbr_machine.specs.Images.{link_shown_at}
use Rattle.vbr_machine.specs.Runs.{Begins}
use Rattle.vbr_machine.specs.declared.event.Event.{Event}
use Rattle.vbr_slots.specs.views.Views.{Trace}
use Rattle.vbr_at_table.specs.declared.held.Held.{Held}

-- up to the moment of the mark the pass had changed no list, and the mark itself leaves the link of each other place than the node's
pub record LeavesOthers (p q : Trace) (node : Held) : Type 0 where
  pub moment : List Event
  pub from : Begins p.seen moment
  pub to : Begins moment q.seen
  pub own : (bucket : ℕ) → own_changes p.start moment p.who bucket ≡ own_changes p.start p.seen p.who bucket
  pub links : (place : At) → place ≢ node.at → link_shown_at (incarnations_after p.start q.seen) place ≡ link_shown_at (incarnations_after p.start moment) place
