-- A pass that was alone: whatever it has seen since is its own.
use Rattle.std.specs.Prelude.{◌≡◌, ℕ, List, [], ◌∷◌, ◌++◌}
use Rattle.vbr_machine.specs.Accounts.{incarnations_after}
use Rattle.vbr_machine.specs.Images.{link_shown_at}
use Rattle.vbr_machine.specs.Incarnations.{Incarnations}
use Rattle.vbr_machine.specs.Nodes.{behind}
use Rattle.vbr_machine.specs.declared.event.Event.{Event}
use Rattle.vbr_words.specs.declared.place.At.{At}
use Rattle.vbr_slots.specs.views.Views.{Trace, knows}

-- each event is one of a pass
abbrev pub OnlyEventsOf : ℕ → List Event → Type 0
OnlyEventsOf pass [] = Unit {0}
OnlyEventsOf pass (event ∷ events) = (event.pass ≡ pass) × OnlyEventsOf pass events

-- the pass has seen more, and all of that is its own
pub record IsAlone (p q : Trace) : Type 0 where
  pub own : List Event
  pub each : OnlyEventsOf p.who own
  pub seen : q.seen ≡ p.seen ++ own

-- the incarnations after what the pass has seen
abbrev pub nodes : Trace → Incarnations
nodes p = incarnations_after p.start p.seen

-- no epoch has passed, in what the pass has seen, since it read one last
abbrev pub IsFresh : Trace → Type 0
IsFresh p = (nodes p).epoch ≡ (knows p).epoch

-- how many nodes stand in the list of a bucket behind a place, after what the pass has seen
abbrev pub ahead : Trace → ℕ → At → ℕ
ahead p bucket place = behind p.start (nodes p) bucket place

-- the lists are as they were: the epoch, the links that stand, and how many nodes are behind each place
pub record LeavesLists (p q : Trace) : Type 0 where
  pub epoch : (nodes q).epoch ≡ (nodes p).epoch
  pub links : (place : At) → link_shown_at (nodes q) place ≡ link_shown_at (nodes p) place
  pub count : (bucket : ℕ) (place : At) → ahead q bucket place ≡ ahead p bucket place
