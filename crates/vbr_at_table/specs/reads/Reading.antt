-- What the calls that read promise.
use Rattle.std.specs.Prelude.{◌≡◌, ℕ, false, Option, Some, None, IsSome}
use Rattle.vbr_words.specs.Words.{link_of}
use Rattle.vbr_words.specs.declared.place.At.{At}
use Rattle.vbr_words.specs.declared.place.At.TheVariants.{Head}
use Rattle.vbr_words.specs.Buckets.{bucket_of}
use Rattle.vbr_machine.specs.Membership.{BirthNamed, HeldIn, KeyAt}
use Rattle.vbr_slots.specs.steps.Alone.{IsAlone, IsFresh, nodes}
use Rattle.vbr_slots.specs.steps.Calls.{AddsNone, OnlyLoads, Quiet, Took}
use Rattle.vbr_slots.specs.views.Views.{PassView, Trace, knows}
use Rattle.vbr_at_table.specs.hands.KeptSlots.{TakesNoSlot}
use Rattle.vbr_at_table.specs.reads.KeptKnowledge.{Keeps, KeepsOwn}
use Rattle.vbr_at_table.specs.reads.Moments.{IsEpochRead, IsNext, IsRead}
use Rattle.vbr_at_table.specs.reads.Rollbacks.{IsMoved}
use Rattle.vbr_at_table.specs.costs.StepCosts.{next_steps}
use Rattle.vbr_at_table.specs.declared.held.Held.{Held}
use Rattle.vbr_at_table.specs.declared.rollback.Rollback.{Rollback}

-- the steps of reading what a held link names
abbrev pub steps_to_next : Held → ℕ
steps_to_next held = next_steps (link_of held.word).slot

-- the pass read, in so many steps, which are loads: it made no call, added no event to the chronicle, and has what slots it had; and if it was alone, the incarnations are as they were
pub record ReadsIn (p q : PassView) (steps : ℕ) : Type 0 where
  pub took : Took p.trace q.trace steps
  pub quiet : Quiet p.trace q.trace
  pub own : KeepsOwn p q
  pub takes_no_slot : TakesNoSlot p q
  pub adds_none : AddsNone p.trace q.trace
  pub only_loads : OnlyLoads p.trace q.trace
  pub looks : IsAlone p.trace q.trace → nodes q.trace ≡ nodes p.trace

-- it has this epoch, which it read in the call, and which none has followed in what it has seen
pub record IsCheckpoint (p q : PassView) (epoch : ℕ) : Type 0 where
  pub known : epoch ≡ (knows q.trace).epoch
  pub read : IsEpochRead p.trace q.trace epoch
  pub fresh : IsFresh q.trace

-- what is held is the head of the bucket, read in the epoch that the pass had, which none has followed in what it has seen, and unmarked
pub record IsHeadRead (p q : PassView) (bucket : ℕ) (head : Held) : Type 0 where
  pub keeps : Keeps (knows p.trace) (knows q.trace)
  pub place : head.at ≡ Head bucket
  pub read : IsRead p.trace q.trace head
  pub unmarked : (link_of head.word).mark ≡ false
  pub fresh : IsFresh q.trace

-- no epoch has followed the one in which a node was read
abbrev pub NextFresh : Trace → Option Held → Type 0
NextFresh q None = Unit {0}
NextFresh q (Some node) = IsFresh q

-- what is held is the node that a held link names, if it names one, read in the epoch that the pass had, which none has followed
pub record IsNextRead (p q : PassView) (held : Held) (next : Option Held) : Type 0 where
  pub keeps : Keeps (knows p.trace) (knows q.trace)
  pub read : IsNext p.trace q.trace held next
  pub fresh : NextFresh q.trace next

-- this is the key of the node at a place, read in the epoch that the pass had, which none has followed, and one of each bucket in which the place was held
pub record IsKeyRead (p q : PassView) (place : At) (found : ℕ) : Type 0 where
  pub keeps : Keeps (knows p.trace) (knows q.trace)
  pub key : KeyAt (knows q.trace) place found
  pub fresh : IsFresh q.trace
  pub bucket : (b : ℕ) → HeldIn (knows p.trace) place b → bucket_of p.trace.start.shape found ≡ b

-- this is the birth of what the link of this word names, 0 of none
pub record IsBirthRead (p q : PassView) (word found : ℕ) : Type 0 where
  pub keeps : Keeps (knows p.trace) (knows q.trace)
  pub birth : BirthNamed (knows q.trace) (link_of word).slot found

-- the epoch has moved, to one that none has followed in what the pass has seen
pub record RollsBack (p q : PassView) (rollback : Rollback) : Type 0 where
  pub moved : IsMoved p.trace q.trace rollback
  pub fresh : IsFresh q.trace

-- the link of this word names a node, and the epoch has moved
pub record BirthMoved (p q : PassView) (word : ℕ) (rollback : Rollback) : Type 0 where
  pub some : IsSome (link_of word).slot
  pub rolls : RollsBack p q rollback
