-- What the calls that answer an operation promise.
use Rattle.std.specs.Prelude.{◌≡◌, ◌≢◌, ℕ, Bool, false}
use Rattle.vbr_machine.specs.Start.{Start}
use Rattle.vbr_words.specs.Words.{link_of}
use Rattle.vbr_machine.specs.History.{set_call}
use Rattle.vbr_machine.specs.Knowledge.{Know}
use Rattle.vbr_machine.specs.Learning.{present_reply}
use Rattle.vbr_machine.specs.Membership.{KeyAt, StandsBehind, StandsBeforeOn}
use Rattle.vbr_machine.specs.declared.history.Call.{Call}
use Rattle.vbr_machine.specs.declared.history.Op.{Op}
use Rattle.vbr_machine.specs.declared.history.Op.TheVariants.{Get, Has}
use Rattle.vbr_slots.specs.steps.Calls.{AddsAnswer, AddsNone, Made, OnlyLoads, Quiet, Took}
use Rattle.vbr_slots.specs.views.Views.{PassView, Trace, knows}
use Rattle.vbr_at_table.specs.hands.KeptSlots.{TakesNoSlot}
use Rattle.vbr_at_table.specs.reads.Held.{IsHeld}
use Rattle.vbr_at_table.specs.reads.KeptKnowledge.{Keeps, KeepsOwn}
use Rattle.vbr_at_table.specs.reads.Rollbacks.{IsLost}
use Rattle.vbr_at_table.specs.declared.held.Held.{Held}
use Rattle.vbr_at_table.specs.declared.rollback.Rollback.{Rollback}

-- ---- what they ask

-- a node is held whose key was checked, by its unmarked link: its key is there
pub record IsPresent (know : Know) (node : Held) : Type 0 where
  pub held : IsHeld know node
  pub key : (key : ℕ) × KeyAt know node.at key
  pub unmarked : (link_of node.word).mark ≡ false

-- a place is held by its unmarked link, which the key is behind and what the link names, past marked nodes, is not: the key is absent
pub record IsAbsent (start : Start) (know : Know) (key : ℕ) (pred : Held) : Type 0 where
  pub held : IsHeld know pred
  pub behind : StandsBehind start know pred.at key
  pub before : StandsBeforeOn know key (link_of pred.word)
  pub unmarked : (link_of pred.word).mark ≡ false

-- the operation is of a set, and another one than this
pub record IsOther (refused op : Op) : Type 0 where
  pub other : op ≢ refused
  pub no_get : op ≢ Get

-- ---- what they promise

-- in so many steps, the pass kept its own pool, its hand and what it knew, and took no slot
pub record KeepsIn (p q : PassView) (steps : ℕ) : Type 0 where
  pub took : Took p.trace q.trace steps
  pub own : KeepsOwn p q
  pub takes_no_slot : TakesNoSlot p q
  pub keeps : Keeps (knows p.trace) (knows q.trace)

-- in one step, a load, the pass kept its own pool, its hand and what it knew, and took no slot
pub record KeepsByLoad (p q : PassView) : Type 0 where
  pub keeps : KeepsIn p q 1
  pub only_loads : OnlyLoads p.trace q.trace

-- the pass made this call, and added just its answer to the chronicle
pub record IsAnswered (p q : Trace) (call : Call) : Type 0 where
  pub made : Made call p q
  pub adds : AddsAnswer call p q

-- it answered by the presence of the key of a node
abbrev pub AnswersPresent : Trace → Trace → Op → Held → Type 0
AnswersPresent p q op node = (key : ℕ) → KeyAt (knows p) node.at key → IsAnswered p q (set_call p.who op key (present_reply op))

-- it answered no, since the key is absent
abbrev pub AnswersAbsent : Trace → Trace → Op → ℕ → Type 0
AnswersAbsent p q op key = IsAnswered p q (set_call p.who op key false)

-- it answered a look-up
abbrev pub AnswersLookUp : Trace → Trace → ℕ → Bool → Type 0
AnswersLookUp p q key present = IsAnswered p q (set_call p.who Has key present)

-- another link stood where one was held: no call was made, and no event added to the chronicle
pub record FindsAnother (p q : Trace) (held : Held) (rollback : Rollback) : Type 0 where
  pub quiet : Quiet p q
  pub adds_none : AddsNone p q
  pub lost : IsLost p q held rollback
