-- Helping to unlink a marked node. Only contracts of private functions cite this.
use Rattle.std.specs.Prelude.{◌≡◌, ◌≢◌, ℕ, ◌+◌, false, List}
use Rattle.vbr_words.specs.Words.{link_of}
use Rattle.vbr_words.specs.declared.place.At.TheVariants.{Slot}
use Rattle.vbr_machine.specs.Accounts.{incarnations_after}
use Rattle.vbr_machine.specs.Disturbances.{IsOpenIn, own_changes}
use Rattle.vbr_machine.specs.Images.{link_shown_at}
use Rattle.vbr_machine.specs.Runs.{Begins}
use Rattle.vbr_machine.specs.declared.event.Event.{Event}
use Rattle.vbr_machine.specs.Membership.{HeldIn, KeyAt, StandsBehind}
use Rattle.vbr_machine.specs.Removals.{IsTakenOut}
use Rattle.vbr_slots.specs.steps.Alone.{nodes}
use Rattle.vbr_slots.specs.views.Views.{PassView, Trace, knows}
use Rattle.vbr_at_table.specs.reads.Held.{IsHeld, HoldsMarked, Names}
use Rattle.vbr_at_table.specs.declared.held.Held.{Held}
use Rattle.vbr_at_table.specs.declared.held.Marked.{Marked}
use Rattle.vbr_at_table.specs.declared.rollback.Rollback.{Rollback}
use Rattle.vbr_list.specs.traversals.Leaving.{LeavesAt, WasClear}
use Rattle.vbr_list.specs.calls.Pieces.{Goes}
use Rattle.vbr_list.specs.traversals.Places.{IsPred}
use Rattle.vbr_list.specs.traversals.Traversing.{HasComeTo}
use Rattle.vbr_list.specs.traversals.Searching.{LosesPlace, MovesOn}

-- ---- what it asks

-- a place is held by its unmarked link, and so is the marked node that this names
pub record MayHelp (p : Trace) (pred : Held) (gone : Marked) : Type 0 where
  pub held : IsHeld (knows p) pred
  pub unmarked : (link_of pred.word).mark ≡ false
  pub marked : HoldsMarked (knows p) gone
  pub names : Names pred gone.slot

-- ---- what it promises

-- in so many steps, whatever was used before
abbrev pub GoesIn : PassView → PassView → ℕ → Type 0
GoesIn p q steps = (used : ℕ) → Goes p q used (used + steps)

-- the place stood open with its new link, which names what the marked link named, at a moment after which the pass changed nothing itself
pub record OpensPlace (p q : Trace) (pred : Held) (gone : Marked) (place : Held) : Type 0 where
  pub moment : List Event
  pub from : Begins p.seen moment
  pub to : Begins moment q.seen
  pub shown : link_shown_at (incarnations_after p.start moment) place.at ≡ link_of place.word
  pub is_open : (bucket : ℕ) → HeldIn (knows p) pred.at bucket → IsOpenIn p.start (incarnations_after p.start moment) bucket place.at
  pub own : (bucket : ℕ) → own_changes p.start q.seen p.who bucket ≡ own_changes p.start moment p.who bucket
  pub next : (link_of place.word).slot ≡ (link_of gone.word).slot

-- the place is where it was, in the epoch that the pass had, and the pass came on to it with its new link, if it stood before a key
pub record Helps (p q : PassView) (pred : Held) (gone : Marked) (place : Held) : Type 0 where
  pub same_place : place.at ≡ pred.at
  pub epoch : (knows q.trace).epoch ≡ (knows p.trace).epoch
  pub opens : OpensPlace p.trace q.trace pred gone place
  pub come : (key : ℕ) → IsPred p.trace.start (knows p.trace) key pred → HasComeTo p.trace q.trace key place

-- the pass rolled back, as the place is lost
abbrev pub HelpsNone : PassView → PassView → Held → Rollback → Type 0
HelpsNone p q pred rollback = LosesPlace p.trace q.trace pred

-- the marked node was unlinked and retired. So if it was taken out, no marked node of its key was in a list but a replaced one; and it has left its list, if it stood behind the place by its key; if the epoch stayed, that helped
pub record RetiresMarked (p q : PassView) (pred : Held) (gone : Marked) (place : Held) : Type 0 where
  pub helps : place.epoch ≡ (knows q.trace).epoch → Helps p q pred gone place
  pub late : place.epoch ≢ (knows q.trace).epoch → MovesOn p.trace q.trace
  pub clear : (key : ℕ) → KeyAt (knows p.trace) (Slot gone.slot) key → StandsBehind p.trace.start (knows p.trace) pred.at key → IsTakenOut (nodes p.trace) (knows p.trace).epoch gone.slot → WasClear p.trace q.trace key
  pub left : (key : ℕ) → KeyAt (knows p.trace) (Slot gone.slot) key → StandsBehind p.trace.start (knows p.trace) pred.at key → LeavesAt p.trace q.trace gone.slot
