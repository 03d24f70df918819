-- What was there, by what a search found: it is read, and answers a get. Only contracts of private functions cite this.
use Rattle.std.specs.Prelude.{◌≡◌, ℕ, true, false, Option, Some, None}
use Rattle.vbr_words.specs.declared.nodes.Nodes.{Ghosts}
use Rattle.vbr_machine.specs.Knowledge.{Know}
use Rattle.vbr_machine.specs.declared.history.Op.TheVariants.{Get}
use Rattle.vbr_slots.specs.steps.Calls.{Made}
use Rattle.vbr_slots.specs.views.Views.{knows}
use Rattle.vbr_at_table.specs.reads.KeptKnowledge.{Keeps}
use Rattle.vbr_at_table.specs.answers.Values.{ValueAt}
use Rattle.vbr_at_table.specs.declared.held.Held.{Held}
use Rattle.vbr_list.specs.calls.Pieces.{trace_in}
use Rattle.vbr_list.specs.calls.Told.{given_call}
use Rattle.vbr_list.specs.traversals.Traversing.{LocatesFor}
use Rattle.vbr_list.specs.traversals.Searching.{LosesFound}
use Rattle.vbr_list.specs.declared.call.PendingCall.{PendingCall}
use Rattle.vbr_list.specs.declared.found.Found.{Found}

-- the key was found present, and this value is known of its node
pub record IsFoundValue (know : Know) (found : Found) (value : ℕ) : Type 0 where
  pub present : found.present ≡ true
  pub known : (cur : Held) → found.cur ≡ Some cur → ValueAt know cur.at value

-- what was there: the value that is known of the node, or none if the key was found absent
abbrev pub IsThere : Know → Found → Option ℕ → Type 0
IsThere know found None = found.present ≡ false
IsThere know found (Some value) = IsFoundValue know found value

-- nodes have values, what was found shows where the call's key stands, and this was there
pub record KnowsThere {N : Type 0} {kind : Ghosts N} (c : PendingCall N kind) (found : Found) (there : Option ℕ) : Type 0 where
  pub values : (trace_in c).start.shape.values ≡ true
  pub locates : LocatesFor c found
  pub is : IsThere (knows (trace_in c)) found there

-- the same once it was read, and what was known before is known
pub record ReadsFound {N : Type 0} {kind : Ghosts N} (c d : PendingCall N kind) (found : Found) (there : Option ℕ) : Type 0 where
  pub keeps : Keeps (knows (trace_in c)) (knows (trace_in d))
  pub known : KnowsThere d found there

-- the value of a node wasn't read, as what was found is lost
pub record LosesRead {N : Type 0} {kind : Ghosts N} (c d : PendingCall N kind) (found : Found) : Type 0 where
  pub present : found.present ≡ true
  pub loses : LosesFound (trace_in c) (trace_in d) found

-- the pass has answered a get with what was there
abbrev pub TellsThere : {N : Type 0} {kind : Ghosts N} → PendingCall N kind → PendingCall N kind → Option ℕ → Type 0
TellsThere c d there = Made (given_call (trace_in c).who Get c.key there) (trace_in c) (trace_in d)
