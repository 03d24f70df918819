-- The pieces of a replacement: a node that was found is replaced by the one in hand, and leaves its list. Only contracts of private functions cite this.
use Rattle.std.specs.Prelude.{◌≡◌, ◌⊎◌, ℕ, ◌+◌, ◌<◌, ◌≤◌, Some, Result, Ok, Err}
use Rattle.vbr_words.specs.declared.nodes.Nodes.{Ghosts}
use Rattle.vbr_words.specs.declared.place.At.TheVariants.{Slot}
use Rattle.vbr_machine.specs.Removals.{ReplacedAt}
use Rattle.vbr_slots.specs.views.Views.{PassView, knows}
use Rattle.vbr_at_table.specs.hands.Hands.{HandView}
use Rattle.vbr_at_table.specs.answers.Records.{PublishesSlot}
use Rattle.vbr_at_table.specs.hands.KeptSlots.{HasAllButOne, HasStill, TakesNoSlot}
use Rattle.vbr_at_table.specs.costs.WithinBudget.{CountsSteps}
use Rattle.vbr_at_table.specs.declared.held.Held.{Held}
use Rattle.vbr_at_table.specs.declared.held.Marked.{Marked}
use Rattle.vbr_list.specs.named_entries.OtherEntries.{ReplacedEntry}
use Rattle.vbr_list.specs.traversals.Leaving.{LeavesAt}
use Rattle.vbr_list.specs.calls.Pieces.{HasRoomForPiece, IsSameCall, pass_in, trace_in}
use Rattle.vbr_list.specs.updates.Removing.{IsMarkedFor, MarksBehind, SearchesOn}
use Rattle.vbr_list.specs.updates.Settling.{Stores, StoresByHand}
use Rattle.vbr_list.specs.look_ups.Telling.{KnowsThere}
use Rattle.vbr_list.specs.declared.call.PendingCall.{PendingCall}
use Rattle.vbr_list.specs.declared.found.Found.{Found}

-- the key was found present, and its value was read
abbrev pub KnowsFoundValue : {N : Type 0} {kind : Ghosts N} → PendingCall N kind → Found → Type 0
KnowsFoundValue c found = (old : ℕ) × KnowsThere c found (Some old)

-- a piece that may store a node: its steps are counted, at most six, and it takes no slot
pub record MayStoreNode {N : Type 0} {kind : Ghosts N} (c d : PendingCall N kind) : Type 0 where
  pub call : IsSameCall c d
  pub counts : CountsSteps (trace_in c) (trace_in d) c.used d.used
  pub more : c.used < d.used
  pub few : d.used ≤ c.used + 6
  pub takes_no_slot : TakesNoSlot (pass_in c) (pass_in d)

-- the node that was found was an entry with this value right before it was replaced
abbrev pub ReplacesFoundEntry : {N : Type 0} {kind : Ghosts N} → PendingCall N kind → PendingCall N kind → Found → ℕ → Type 0
ReplacesFoundEntry c d found old = (node : Held) → found.cur ≡ Some node → (s : ℕ) → node.at ≡ Slot s →
    ReplacedEntry (trace_in c).start (trace_in c).seen (trace_in d).seen (trace_in c).who s node.birth c.key old

-- the key had the value that was read, and has this one; the old node is the one that was found and replaced, and the place before it shows what it showed before
pub record ReplacesFound {N : Type 0} {kind : Ghosts N} (value : ℕ) (c d : PendingCall N kind) (found : Found) (gone : Marked) : Type 0 where
  pub stores : (old : ℕ) → KnowsThere c found (Some old) → Stores value c d (Some old)
  pub old : IsMarkedFor d found.pred gone
  pub replaced : ReplacedAt (trace_in c).start (trace_in c).seen (trace_in d).seen (trace_in c).who (knows (trace_in d)).epoch gone.slot
  pub marks : MarksBehind (trace_in c) (trace_in d) c.key found.pred
  pub entry : (old : ℕ) → KnowsThere c found (Some old) → ReplacesFoundEntry c d found old

-- the slot that was in hand is published in its place; or it stays in hand
abbrev pub PublishesOrKeeps : {N A : Type 0} {kind : Ghosts N} → PendingCall N kind → PendingCall N kind → HandView → Result A HandView → Type 0
PublishesOrKeeps c d hand (Ok answer) = PublishesSlot (trace_in c) (trace_in d) hand.slot hand.birth c.key
PublishesOrKeeps c d hand (Err back) = back ≡ hand

-- the same with the value, and the node that was found, whose value was read, was an entry until then
pub record ReplacesRead {N : Type 0} {kind : Ghosts N} (value : ℕ) (c d : PendingCall N kind) (hand : HandView) (found : Found) (old : ℕ) : Type 0 where
  pub stores : StoresByHand 6 value c d hand found (Some old)
  pub entry : ReplacesFoundEntry c d found old

abbrev pub ReplacesByHand : {N : Type 0} {kind : Ghosts N} → ℕ → PendingCall N kind → PendingCall N kind → HandView → Found → Type 0
ReplacesByHand value c d hand found = (old : ℕ) → KnowsThere c found (Some old) → ReplacesRead value c d hand found old

-- the old node is unlinked in six steps at most, if the budget has room for a piece
pub record UnlinksAtOnce {N : Type 0} {kind : Ghosts N} (c d : PendingCall N kind) (slot : ℕ) : Type 0 where
  pub few : d.used ≤ c.used + 6
  pub leaves : HasRoomForPiece c → LeavesAt (trace_in c) (trace_in d) slot

-- the same, or the place before it was lost, and a search follows
abbrev pub UnlinksReplaced : {N : Type 0} {kind : Ghosts N} → PendingCall N kind → PendingCall N kind → Held → ℕ → Type 0
UnlinksReplaced c d pred slot = UnlinksAtOnce c d slot ⊎ SearchesOn (trace_in c) (trace_in d) c.key c.used d.used pred

-- each slot that the pass had it still has, but for the one that it published, if it did
abbrev pub HasUnused : {A E : Type 0} → PassView → PassView → Result A E → Type 0
HasUnused p q (Ok answer) = HasAllButOne p q
HasUnused p q (Err error) = HasStill p q
