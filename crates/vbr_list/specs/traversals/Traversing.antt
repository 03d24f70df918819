-- A traversal, piece by piece: it starts at the head, visits node after node, and comes to the key. Only contracts of private functions cite this.
use Rattle.std.specs.Prelude.{◌≡◌, ℕ, ◌+◌, ◌<◌}
use Rattle.vbr_words.specs.Buckets.{bucket_of}
use Rattle.vbr_words.specs.declared.nodes.Nodes.{Ghosts}
use Rattle.vbr_machine.specs.Runs.{Begins}
use Rattle.vbr_slots.specs.steps.Calls.{IsSame}
use Rattle.vbr_slots.specs.views.Views.{Trace, knows}
use Rattle.vbr_at_table.specs.declared.budget.TheConstants.{PIECE}
use Rattle.vbr_at_table.specs.costs.StepKinds.{advances}
use Rattle.vbr_at_table.specs.reads.Moments.{Stood}
use Rattle.vbr_at_table.specs.declared.held.Held.{Held}
use Rattle.vbr_list.specs.traversals.Disturbed.{disturbed_after}
use Rattle.vbr_list.specs.traversals.Found.{IsFound}
use Rattle.vbr_list.specs.calls.Pieces.{trace_in}
use Rattle.vbr_list.specs.traversals.Places.{IsPred, Locates}
use Rattle.vbr_list.specs.traversals.Searching.{IsDisturbed, KnowsEpoch, NextStandsStill, Repeats, StandsStill, TraversesAgain, TraversesOnce}
use Rattle.vbr_list.specs.declared.call.PendingCall.{PendingCall}
use Rattle.vbr_list.specs.declared.found.Found.{Found}
use Rattle.vbr_list.specs.declared.traversal.Stop.{Stop}
use Rattle.vbr_list.specs.declared.traversal.Stop.TheVariants.{Again, Tired}

-- ---- what a piece asks

-- a place before the call's key is held
abbrev pub IsPredFor : {N : Type 0} {kind : Ghosts N} → PendingCall N kind → Held → Type 0
IsPredFor c pred = IsPred (trace_in c).start (knows (trace_in c)) c.key pred

-- what was found shows where the call's key stands
abbrev pub LocatesFor : {N : Type 0} {kind : Ghosts N} → PendingCall N kind → Found → Type 0
LocatesFor c found = Locates (trace_in c).start (knows (trace_in c)) c.key found

-- ---- what it comes to

-- the pass has come to a place before the key, which stood so at a moment
pub record HasComeTo (p q : Trace) (key : ℕ) (pred : Held) : Type 0 where
  pub is : IsPred q.start (knows q) key pred
  pub stood : Stood p q pred

-- ---- how it ends

-- one traversal has come to the key: what it found stood open
pub record TraversalFinds {N : Type 0} {kind : Ghosts N} (c d : PendingCall N kind) (told : Found) : Type 0 where
  pub found : IsFound (trace_in c) (trace_in d) c.key told
  pub used : told.used ≡ d.used
  pub knew : KnowsEpoch (trace_in c) (trace_in d)
  pub pred : StandsStill (trace_in c) (trace_in d) c.bucket told.pred
  pub cur : NextStandsStill (trace_in c) (trace_in d) c.bucket told.cur
  pub paid : TraversesOnce 9 3 (trace_in c) (trace_in d) c.bucket c.used d.used

-- it rolled back, disturbed by another; or the budget has no room for one more piece
abbrev pub SearchStops : {N : Type 0} {kind : Ghosts N} → PendingCall N kind → PendingCall N kind → Stop → Type 0
SearchStops c d Again = (c.used < d.used) × TraversesOnce 9 3 (trace_in c) (trace_in d) c.bucket c.used d.used × IsDisturbed (trace_in c) (trace_in d) c.bucket
SearchStops c d Tired = (c.budget < d.used + PIECE) × TraversesOnce 9 3 (trace_in c) (trace_in d) c.bucket c.used d.used

-- the last traversal of a search began there, and each before it was disturbed; what it found stood open since
pub record LastTraversal (p q : Trace) (key before since : ℕ) (told : Found) : Type 0 where
  pub begun : Trace
  pub same : IsSame p begun
  pub from : Begins p.seen begun.seen
  pub to : Begins begun.seen q.seen
  pub count : advances q ≡ advances begun
  pub knew : KnowsEpoch begun q
  pub pred : StandsStill begun q (bucket_of begun.start.shape key) told.pred
  pub cur : NextStandsStill begun q (bucket_of begun.start.shape key) told.cur
  pub lost : ℕ
  pub repeats : Repeats 9 p q key 3 before since (lost + 1) (disturbed_after p key begun.seen + 1)

-- a search has come to the key: each traversal but the last was disturbed
pub record SearchFinds {N : Type 0} {kind : Ghosts N} (c d : PendingCall N kind) (told : Found) : Type 0 where
  pub found : IsFound (trace_in c) (trace_in d) c.key told
  pub used : told.used ≡ d.used
  pub last : LastTraversal (trace_in c) (trace_in d) c.key c.used d.used told
  pub traverses : TraversesAgain 9 (trace_in c) (trace_in d) c.key c.used d.used

-- the budget has no room for one more piece
pub record SearchTires {N : Type 0} {kind : Ghosts N} (c d : PendingCall N kind) : Type 0 where
  pub tired : c.budget < d.used + PIECE
  pub traverses : TraversesAgain 9 (trace_in c) (trace_in d) c.key c.used d.used
