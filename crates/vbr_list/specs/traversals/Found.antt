-- What a traversal found was true: its places stood at moments of what the pass did.
use Rattle.std.specs.Prelude.{ℕ, ◌<◌, ◌≤◌, Option, Some, None}
use Rattle.vbr_slots.specs.steps.Alone.{IsAlone}
use Rattle.vbr_slots.specs.steps.Calls.{Quiet, Took}
use Rattle.vbr_slots.specs.views.Views.{PassView, Trace, knows}
use Rattle.vbr_at_table.specs.reads.Moments.{Stood, WasSo}
use Rattle.vbr_at_table.specs.declared.held.Held.{Held}
use Rattle.vbr_list.specs.calls.Budgets.{enough_to_search, find_costs, listed_for}
use Rattle.vbr_list.specs.traversals.Disturbed.{disturbed, enough_to_search_among, find_costs_among}
use Rattle.vbr_list.specs.traversals.Leaving.{WasClear}
use Rattle.vbr_list.specs.traversals.Places.{Locates}
use Rattle.vbr_list.specs.calls.Refusals.{IsTired}
use Rattle.vbr_list.specs.declared.found.Found.{Found}
use Rattle.vbr_at_table.specs.declared.refusal.Refusal.{Refusal}

-- the node, if there is one, stood so at a moment
abbrev pub CurStood : Trace → Trace → Option Held → Type 0
CurStood p q None = Unit {0}
CurStood p q (Some cur) = Stood p q cur

-- where the key stands was read by what the pass did
pub record IsFound (p q : Trace) (key : ℕ) (found : Found) : Type 0 where
  pub locates : Locates q.start (knows q) key found
  pub stood : Stood p q found.pred
  pub cur_stood : CurStood p q found.cur

-- a find made no call, and shows where the key stood at moments of it, within its budget; and at a moment no marked node of the key was in a list; alone, and if it was disturbed so often, it costs no more than is known before
pub record FindsIn (p q : PassView) (key budget : ℕ) (told : Found) : Type 0 where
  pub quiet : Quiet p.trace q.trace
  pub found : IsFound p.trace q.trace key told
  pub was_so : WasSo p.trace q.trace key told.present
  pub clear : WasClear p.trace q.trace key
  pub within : told.used ≤ budget
  pub took : Took p.trace q.trace told.used
  pub costs : IsAlone p.trace q.trace → told.used ≤ find_costs p.trace key
  pub disturbed_costs : told.used ≤ find_costs_among (listed_for p.trace key) (disturbed p.trace q.trace key)

-- a find gave up for want of steps, and made no call; a pass that was alone had fewer than are enough for the nodes that were listed, and one that was disturbed so often, fewer than are then enough
pub record FindGivesUp (p q : PassView) (key budget : ℕ) (refusal : Refusal) : Type 0 where
  pub quiet : Quiet p.trace q.trace
  pub refused : IsTired p q budget refusal
  pub lacks : IsAlone p.trace q.trace → budget < enough_to_search p.trace key
  pub disturbed_lacks : budget < enough_to_search_among (listed_for p.trace key) (disturbed p.trace q.trace key)
