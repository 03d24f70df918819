-- What the calls that exchange a link word promise: linking a new node, unlinking, and a mark that is lost.
use Rattle.std.specs.Prelude.{◌≡◌, ℕ, false, true, None}
use Rattle.vbr_words.specs.Words.{link_of}
use Rattle.vbr_machine.specs.Acceptance.{IsUnlinked}
use Rattle.vbr_machine.specs.History.{set_call}
use Rattle.vbr_machine.specs.Knowledge.{Know}
use Rattle.vbr_machine.specs.Links.{link_to}
use Rattle.vbr_machine.specs.Membership.{StandsBefore, StandsBehind}
use Rattle.vbr_machine.specs.declared.history.Call.{Call}
use Rattle.vbr_machine.specs.declared.history.Op.TheVariants.{Insert}
use Rattle.vbr_slots.specs.steps.Alone.{IsAlone}
use Rattle.vbr_slots.specs.steps.Calls.{AddsNone, Made, Quiet, Took}
use Rattle.vbr_slots.specs.views.Views.{PassView, Trace, knows}
use Rattle.vbr_at_table.specs.costs.StepKinds.{ChangesNone}
use Rattle.vbr_at_table.specs.hands.Hands.{HandView, IsHandOf, UnlinkedView}
use Rattle.vbr_at_table.specs.hands.KeptSlots.{TakesNoSlot}
use Rattle.vbr_at_table.specs.answers.WonAlone.{StandsNow, UnlinksAlone}
use Rattle.vbr_at_table.specs.reads.Held.{IsFilled, IsHeld}
use Rattle.vbr_at_table.specs.reads.KeptKnowledge.{Keeps, KeepsOwn, KeepsUnlinked}
use Rattle.vbr_at_table.specs.reads.Moments.{IsRead}
use Rattle.vbr_at_table.specs.reads.Rollbacks.{FreshIfMoved, IsLost, IsMovedOrLost}
use Rattle.vbr_at_table.specs.declared.held.Held.{Held}
use Rattle.vbr_at_table.specs.declared.held.Marked.{Marked}
use Rattle.vbr_at_table.specs.declared.rollback.Rollback.{Rollback}

-- ---- what they ask

-- a place is held by its unmarked link
pub record IsUnmarked (know : Know) (place : Held) : Type 0 where
  pub held : IsHeld know place
  pub unmarked : (link_of place.word).mark ≡ false

-- a place is held by its unmarked link, and the key belongs behind it and before what the link names
pub record IsGap (p : Trace) (key : ℕ) (pred : Held) : Type 0 where
  pub held : IsHeld (knows p) pred
  pub unmarked : (link_of pred.word).mark ≡ false
  pub behind : StandsBehind p.start (knows p) pred.at key
  pub before : StandsBefore (knows p) key (link_of pred.word).slot

-- ---- what they promise

-- another link stood where one was held: no call was made, and no list changed
pub record LosesExchange (p q : Trace) (held : Held) (rollback : Rollback) : Type 0 where
  pub quiet : Quiet p q
  pub lost : IsLost p q held rollback
  pub unchanged : ChangesNone p q

-- in so many steps, the pass kept its own pool and what it knew, and took no slot
pub record StoresIn (p q : PassView) (steps : ℕ) : Type 0 where
  pub took : Took p.trace q.trace steps
  pub keeps : Keeps (knows p.trace) (knows q.trace)
  pub pool : q.pool ≡ p.pool
  pub takes_no_slot : TakesNoSlot p q

-- the incarnation in hand has this key, and this birth in its link; no call was made, and no list changed
pub record FillsHand (p q : PassView) (pred : Held) (given : HandView) (key birth : ℕ) : Type 0 where
  pub quiet : Quiet p.trace q.trace
  pub hand : q.hand ≡ p.hand
  pub filled : IsFilled ((knows q.trace).own given.slot) given.birth key (link_to (link_of pred.word).slot given.birth birth)
  pub unchanged : ChangesNone p.trace q.trace

-- the pass made this call, an insert, and its hand is empty
pub record InsertsNode (call : Call) (p q : PassView) : Type 0 where
  pub made : Made call p.trace q.trace
  pub spent : q.hand ≡ None

-- it inserted the key
abbrev pub InsertsKey : PassView → PassView → ℕ → Type 0
InsertsKey p q key = InsertsNode (set_call p.trace.who Insert key true) p q

-- the exchange was lost, and what was in hand is given back
pub record GivesBack (p q : PassView) (pred : Held) (given : HandView) (back : HandView × Rollback) : Type 0 where
  pub same : back.0 ≡ given
  pub hand : IsHandOf q back.0
  pub exchange : LosesExchange p.trace q.trace pred back.1

-- in so many steps, the pass made no call, and kept its own pool and its hand
pub record StaysIn (p q : PassView) (steps : ℕ) : Type 0 where
  pub took : Took p.trace q.trace steps
  pub quiet : Quiet p.trace q.trace
  pub own : KeepsOwn p q

-- the slot is unlinked and has to be stamped; what is held behind it is read, unmarked, names what the marked link named, and stands; a pass that was alone leaves one node fewer
pub record UnlinksNode (p q : PassView) (pred : Held) (gone : Marked) (told : UnlinkedView × Held) : Type 0 where
  pub unlinks : KeepsUnlinked gone.slot p q
  pub keeps : Keeps (knows p.trace) (knows q.trace)
  pub slot : told.0.slot ≡ gone.slot
  pub owned : IsUnlinked ((knows q.trace).own gone.slot)
  pub place : told.1.at ≡ pred.at
  pub read : IsRead p.trace q.trace told.1
  pub still : (link_of told.1.word).mark ≡ false
  pub next : (link_of told.1.word).slot ≡ (link_of gone.word).slot
  pub stands : StandsNow q.trace told.1
  pub alone : IsAlone p.trace q.trace → StandsNow p.trace pred → UnlinksAlone p.trace q.trace pred told.1

-- the node wasn't unlinked, and no event added to the chronicle: the epoch has moved, and none has followed, or another link stood
pub record UnlinksNone (p q : PassView) (pred : Held) (rollback : Rollback) : Type 0 where
  pub takes_no_slot : TakesNoSlot p q
  pub rolled : IsMovedOrLost p.trace q.trace pred rollback
  pub fresh : FreshIfMoved q.trace rollback
  pub adds_none : AddsNone p.trace q.trace
