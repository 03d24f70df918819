-- The pieces of a store that has a slot in hand: the slot is published with the value, or stays in hand. Only contracts of private functions cite this, and those of calls with a slot in hand.
use Rattle.std.specs.Prelude.{◌≡◌, ◌⊎◌, ℕ, ◌+◌, ◌*◌, ◌<◌, ◌≤◌, Bool, true, false, Option, Some, None}
use Rattle.vbr_words.specs.declared.nodes.Nodes.{Ghosts}
use Rattle.vbr_machine.specs.Runs.{Begins}
use Rattle.vbr_slots.specs.steps.Calls.{IsSame, Made, Quiet}
use Rattle.vbr_slots.specs.views.Views.{Trace}
use Rattle.vbr_at_table.specs.hands.Hands.{HandView}
use Rattle.vbr_at_table.specs.answers.Records.{PublishesSlot}
use Rattle.vbr_at_table.specs.answers.Values.{steps_to_update}
use Rattle.vbr_at_table.specs.hands.KeptSlots.{HasAllButOne, HasStill, TakesNoSlot}
use Rattle.vbr_at_table.specs.costs.WithinBudget.{CountsSteps}
use Rattle.vbr_at_table.specs.declared.budget.TheConstants.{PIECE}
use Rattle.vbr_list.specs.traversals.Disturbed.{disturbed_after}
use Rattle.vbr_list.specs.updates.Inserting.{GivesHandBack, Searches}
use Rattle.vbr_list.specs.traversals.Leaving.{LeavesReplaced}
use Rattle.vbr_list.specs.calls.Told.{stored_in}
use Rattle.vbr_list.specs.calls.Pieces.{HasRoomForPiece, IsSameCall, pass_in, trace_in}
use Rattle.vbr_list.specs.updates.Removing.{MarksAndSearches}
use Rattle.vbr_list.specs.updates.Storing.{Makes, storing_calls}
use Rattle.vbr_list.specs.traversals.Searching.{met_since}
use Rattle.vbr_list.specs.declared.call.PendingCall.{PendingCall}
use Rattle.vbr_list.specs.declared.found.Found.{Found}

-- ---- the value is stored

-- a piece that may have answered the call: its steps are counted, and it takes no slot
pub record MaySettle {N : Type 0} {kind : Ghosts N} (c d : PendingCall N kind) : Type 0 where
  pub call : IsSameCall c d
  pub counts : CountsSteps (trace_in c) (trace_in d) c.used d.used
  pub more : c.used < d.used
  pub takes_no_slot : TakesNoSlot (pass_in c) (pass_in d)

-- the pass has stored the value when this was there, and its hand is empty
pub record Stores {N : Type 0} {kind : Ghosts N} (value : ℕ) (c d : PendingCall N kind) (there : Option ℕ) : Type 0 where
  pub made : Makes (storing_calls (trace_in c).who c.key value there) (trace_in c) (trace_in d)
  pub spent : (pass_in d).hand ≡ None

-- whether a node was there
abbrev pub had_node : Option ℕ → Bool
had_node None = false
had_node (Some old) = true

-- it is answered in so many steps and six; with a piece more left of the budget than so many, a replaced node has then left its list
pub record SettlesSoon {N : Type 0} {kind : Ghosts N} (most : ℕ) (stored : Bool) (c d : PendingCall N kind) : Type 0 where
  pub few : d.used ≤ c.used + most + 6
  pub leaves : stored ≡ true → c.used + most + PIECE ≤ c.budget → LeavesReplaced (trace_in c) (trace_in d) c.key

-- the same; or, if a node was replaced, the place before it was lost, and searches follow
abbrev pub SettlesIn : {N : Type 0} {kind : Ghosts N} → ℕ → Bool → PendingCall N kind → PendingCall N kind → Found → Type 0
SettlesIn most false c d found = SettlesSoon most false c d
SettlesIn most true c d found = SettlesSoon most true c d ⊎ MarksAndSearches most (trace_in c) (trace_in d) c.key c.used d.used found.pred

-- the slot in hand was published at a moment of what the pass did
pub record PublishedSlot (p q : Trace) (slot birth key : ℕ) : Type 0 where
  pub ended : Trace
  pub same : IsSame p ended
  pub to : Begins ended.seen q.seen
  pub published : PublishesSlot p ended slot birth key

-- a new node was linked with the value, as the key was absent: an insert, in the steps that one makes
pub record LinksNode {N : Type 0} {kind : Ghosts N} (value : ℕ) (c d : PendingCall N kind) (hand : HandView) : Type 0 where
  pub made : Made (stored_in (trace_in c) c.key value true) (trace_in c) (trace_in d)
  pub spent : (pass_in d).hand ≡ None
  pub slot : PublishesSlot (trace_in c) (trace_in d) hand.slot hand.birth c.key
  pub had : HasAllButOne (pass_in c) (pass_in d)
  pub few : d.used ≤ c.used + steps_to_update (trace_in c).start

-- the slot in hand was published with the value, when this was there; a node that was replaced has left its list, unless the budget has no room for one more piece
pub record StoresByHand {N : Type 0} {kind : Ghosts N} (most value : ℕ) (c d : PendingCall N kind) (hand : HandView) (found : Found) (there : Option ℕ) : Type 0 where
  pub stores : Stores value c d there
  pub slot : PublishedSlot (trace_in c) (trace_in d) hand.slot hand.birth c.key
  pub had : HasAllButOne (pass_in c) (pass_in d)
  pub leaves : had_node there ≡ true → HasRoomForPiece d → LeavesReplaced (trace_in c) (trace_in d) c.key
  pub paid : SettlesIn most (had_node there) c d found

-- nothing was stored in so many steps at most, as what was found is lost, and the slot is in hand as it was
pub record LeavesInHand {N : Type 0} {kind : Ghosts N} (most : ℕ) (c d : PendingCall N kind) (found : Found) (hand back : HandView) : Type 0 where
  pub given : GivesHandBack c d found back
  pub same : back ≡ hand
  pub had : HasStill (pass_in c) (pass_in d)
  pub few : d.used ≤ c.used + most

-- ---- searches with a slot in hand

-- searches for a key with a slot in hand: twelve steps for each that was disturbed
abbrev pub SearchesWith : Trace → Trace → ℕ → ℕ → ℕ → ℕ → Type 0
SearchesWith p q key before since more = Searches 12 p q key before since more

-- it is answered soon after its last search; with sixteen steps left of the budget then a replaced node has left its list
pub record StoredSoon (stored : Bool) (p q : Trace) (key before since budget : ℕ) : Type 0 where
  pub ended : Trace
  pub quiet : Quiet p ended
  pub to : Begins ended.seen q.seen
  pub used : ℕ
  pub searches : SearchesWith p ended key before used 3
  pub few : since ≤ used + 14
  pub leaves : stored ≡ true → used + 16 ≤ budget → LeavesReplaced p q key

-- it replaced a node after some searches, lost the place before it, and searched on: for that it was disturbed once, and once for each search but the last
pub record AnswersLate (p q : Trace) (key before since : ℕ) : Type 0 where
  pub ended : Trace
  pub quiet : Quiet p ended
  pub to : Begins ended.seen q.seen
  pub lost : ℕ
  pub later : ℕ
  pub few : disturbed_after p key p.seen + (lost + later + 1) ≤ disturbed_after p key q.seen
  pub paid : since ≤ before + 9 * met_since p ended key + lost * (9 * met_since p ended key + 12) + (later + 1) * (9 * met_since ended q key + 3) + 17

-- one or, if a node was replaced, the other
abbrev pub StoredIn : Bool → Trace → Trace → ℕ → ℕ → ℕ → ℕ → Type 0
StoredIn false p q key before since budget = StoredSoon false p q key before since budget
StoredIn true p q key before since budget = StoredSoon true p q key before since budget ⊎ AnswersLate p q key before since
