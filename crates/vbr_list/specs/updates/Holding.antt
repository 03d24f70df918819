-- What an insert, a replacement and a put promise by a slot that the pass already has in hand.
use Rattle.std.specs.Prelude.{◌≡◌, ℕ, ◌+◌, ◌<◌, ◌≤◌, Bool, true, false, Option, Some, None, Result, IfOk, IfErr}
use Rattle.vbr_words.specs.declared.nodes.Nodes.{Ghosts}
use Rattle.vbr_slots.specs.steps.Alone.{IsAlone}
use Rattle.vbr_slots.specs.steps.Calls.{Made, Quiet, Took}
use Rattle.vbr_slots.specs.views.Views.{PassView, Trace}
use Rattle.vbr_at_table.specs.hands.Hands.{HandView}
use Rattle.vbr_at_table.specs.hands.KeptSlots.{TakesNoSlot}
use Rattle.vbr_at_table.specs.answers.Records.{PublishesSlot}
use Rattle.vbr_at_table.specs.pools.Taking.{IsTaken}
use Rattle.vbr_at_table.specs.answers.Values.{steps_to_update}
use Rattle.vbr_at_table.specs.costs.WithinBudget.{TookWithin}
use Rattle.vbr_list.specs.calls.Budgets.{enough_to_search, find_costs, listed_for}
use Rattle.vbr_list.specs.traversals.Disturbed.{costs_in_hand_among, disturbed, enough_in_hand_among}
use Rattle.vbr_list.specs.named_entries.OtherEntries.{ReplacedEntry, WasOther}
use Rattle.vbr_list.specs.updates.Inserting.{HasHandAndRoom, RunsShort, SearchedFor, SearchesFor}
use Rattle.vbr_list.specs.calls.LoneReplies.{AreAnsweredAlone}
use Rattle.vbr_list.specs.calls.Pieces.{pass_in}
use Rattle.vbr_list.specs.traversals.Leaving.{LeavesReplaced}
use Rattle.vbr_list.specs.updates.Settling.{PublishedSlot, SearchesWith, StoredIn, had_node}
use Rattle.vbr_list.specs.updates.Storing.{Makes, storing_calls}
use Rattle.vbr_list.specs.calls.Told.{stored_in}
use Rattle.vbr_list.specs.declared.call.PendingCall.{PendingCall}
use Rattle.vbr_at_table.specs.declared.budget.TheConstants.{PIECE}
use Rattle.vbr_list.specs.declared.entries.Entry.{Entry}
use Rattle.vbr_list.specs.declared.holding.NotReplaced.{NotReplaced}
use Rattle.vbr_list.specs.declared.holding.NotReplaced.TheVariants.{Other, OutOfSteps as Tired}
use Rattle.vbr_list.specs.declared.holding.StillInHand.{StillInHand}
use Rattle.vbr_list.specs.declared.holding.StillInHand.TheVariants.{Present, OutOfSteps}

-- ---- of a pass

-- a slot was taken in hand, and there is a free place in the own pool
pub record HoldsSlot (p q : PassView) (hand : HandView) : Type 0 where
  pub taken : IsTaken p q hand
  pub has : HasHandAndRoom q hand

-- with so many steps used before, a pass that was disturbed so often was done with a call in this number of steps at most, so many of them after its last search; alone in a number that is known before
pub record CostsInHand (each after : ℕ) (p q : Trace) (key before since : ℕ) : Type 0 where
  pub disturbed_costs : since ≤ before + costs_in_hand_among each (listed_for p key) (disturbed p q key) after
  pub costs : IsAlone p q → since ≤ before + (find_costs p key + after)

-- the same for a budget that didn't suffice: it was less than is enough
pub record LacksInHand (each : ℕ) (p q : Trace) (key before budget : ℕ) : Type 0 where
  pub disturbed_lacks : budget < before + enough_in_hand_among each (listed_for p key) (disturbed p q key)
  pub lacks : IsAlone p q → budget < before + enough_to_search p key

-- the insert was answered, once it had come to the key
pub record AnswersHeld (p q : Trace) (key value before since : ℕ) (reply : Bool) : Type 0 where
  pub made : Made (stored_in p key value reply) p q
  pub searched : SearchedFor p q key before since (steps_to_update p.start + 3)
  pub costs : CostsInHand 7 (steps_to_update p.start) p q key before since

-- it was answered yes: the slot that was in hand is published, and the hand is empty
pub record PublishesHeld (p q : PassView) (key value before since : ℕ) (hand : HandView) : Type 0 where
  pub answers : AnswersHeld p.trace q.trace key value before since true
  pub spent : q.hand ≡ None
  pub slot : PublishesSlot p.trace q.trace hand.slot hand.birth key

-- it wasn't answered, for want of steps
pub record TiresHeld (p q : Trace) (key before used budget : ℕ) : Type 0 where
  pub quiet : Quiet p q
  pub short : RunsShort p q before used budget
  pub searches : SearchesFor p q key before (budget + 1) 11
  pub lacks : LacksInHand 7 p q key before budget

-- why the slot wasn't published: the insert was answered no, or there were no steps left
abbrev pub SaysHeld : PassView → PassView → ℕ → ℕ → ℕ → ℕ → ℕ → StillInHand → Type 0
SaysHeld p q key value before since budget Present = AnswersHeld p.trace q.trace key value before since false
SaysHeld p q key value before since budget (OutOfSteps used) = TiresHeld p.trace q.trace key before used budget

-- the slot wasn't published: the hand is as it was, and there is a free place in the own pool
pub record HoldsOn (p q : PassView) (key value before since budget : ℕ) (hand : HandView) (told : HandView × StillInHand) : Type 0 where
  pub same : told.0 ≡ hand
  pub has : HasHandAndRoom q told.0
  pub says : SaysHeld p q key value before since budget told.1

-- an insert by a slot in hand: its steps are within the budget, it takes no slot, and it publishes the slot in hand or leaves it there
pub record InsertsHeld {T : Type 0} (p q : PassView) (key value budget : ℕ) (hand : HandView) (answer : Result T (HandView × StillInHand)) : Type 0 where
  pub steps : TookWithin p.trace q.trace budget
  pub takes_no_slot : TakesNoSlot p q
  pub since : ℕ
  pub took : Took p.trace q.trace since
  pub published : IfOk answer (λ _. PublishesHeld p q key value 0 since hand)
  pub kept : IfErr answer (HoldsOn p q key value 0 since budget hand)

-- ---- a value is stored by a slot in hand

-- with so many steps used before, the slot in hand is published with this value, when this was there: by an insert, or in the place of a node, which has left its list unless the steps leave no room in the budget for one more piece
pub record StoresHeld (p q : PassView) (key value before since budget : ℕ) (hand : HandView) (there : Option ℕ) : Type 0 where
  pub made : Makes (storing_calls p.trace.who key value there) p.trace q.trace
  pub alone : AreAnsweredAlone p.trace (storing_calls p.trace.who key value there)
  pub spent : q.hand ≡ None
  pub slot : PublishedSlot p.trace q.trace hand.slot hand.birth key
  pub leaves : had_node there ≡ true → since + PIECE ≤ budget → LeavesReplaced p.trace q.trace key
  pub leaves_alone : had_node there ≡ true → IsAlone p.trace q.trace → before + enough_to_search p.trace key + PIECE ≤ budget → LeavesReplaced p.trace q.trace key
  pub paid : StoredIn (had_node there) p.trace q.trace key before since budget
  pub costs : CostsInHand 12 14 p.trace q.trace key before since

-- it isn't, for want of steps, and no call was made
pub record TiresStoring (p q : Trace) (key before used budget : ℕ) : Type 0 where
  pub short : RunsShort p q before used budget
  pub searches : SearchesWith p q key before (budget + 1) 11
  pub lacks : LacksInHand 12 p q key before budget

-- ---- an entry is replaced

-- the slot in hand took the place of this entry's node, by a remove of its value and an insert next to each other
pub record TakesPlace (p q : PassView) (key value before since budget : ℕ) (hand : HandView) (entry : Entry) : Type 0 where
  pub old : ℕ
  pub stores : StoresHeld p q key value before since budget hand (Some old)
  pub gone : ReplacedEntry p.trace.start p.trace.seen q.trace.seen p.trace.who entry.slot entry.birth key old

-- the search found that this entry isn't there
pub record FindsOtherEntry (p q : Trace) (key before since : ℕ) (entry : Entry) : Type 0 where
  pub was : WasOther p q key entry
  pub searches : SearchesWith p q key before since 3
  pub costs : CostsInHand 12 0 p q key before since

-- why it didn't take an entry's place: another entry is there, or none; or there were no steps left
abbrev pub SaysUnreplaced : Trace → Trace → ℕ → ℕ → ℕ → ℕ → Entry → NotReplaced → Type 0
SaysUnreplaced p q key before since budget entry Other = FindsOtherEntry p q key before since entry
SaysUnreplaced p q key before since budget entry (Tired used) = TiresStoring p q key before used budget

-- the slot in hand didn't: the hand is as it was, and no call was made
pub record HoldsUnreplaced (p q : PassView) (key before since budget : ℕ) (hand : HandView) (entry : Entry) (told : HandView × NotReplaced) : Type 0 where
  pub same : told.0 ≡ hand
  pub has : HasHandAndRoom q told.0
  pub quiet : Quiet p.trace q.trace
  pub says : SaysUnreplaced p.trace q.trace key before since budget entry told.1

-- a replacement by a slot in hand: its steps are within the budget, it takes no slot, and it publishes the slot in hand in the place of this entry's node, or leaves it there
pub record ReplacesHeldEntry {T : Type 0} (p q : PassView) (key value budget : ℕ) (hand : HandView) (entry : Entry) (answer : Result T (HandView × NotReplaced)) : Type 0 where
  pub steps : TookWithin p.trace q.trace budget
  pub takes_no_slot : TakesNoSlot p q
  pub since : ℕ
  pub took : Took p.trace q.trace since
  pub replaced : IfOk answer (λ _. TakesPlace p q key value 0 since budget hand entry)
  pub kept : IfErr answer (HoldsUnreplaced p q key 0 since budget hand entry)

-- ---- a key gets a value, whatever is there

-- there were no steps left: the hand is as it was, and no call was made
pub record HoldsUnput (p q : PassView) (key before budget : ℕ) (hand : HandView) (told : HandView × ℕ) : Type 0 where
  pub same : told.0 ≡ hand
  pub has : HasHandAndRoom q told.0
  pub quiet : Quiet p.trace q.trace
  pub tires : TiresStoring p.trace q.trace key before told.1 budget

-- a put by a slot in hand: its steps are within the budget, it takes no slot, and it publishes the slot in hand and returns what was there, or leaves it in hand
pub record PutsHeld (p q : PassView) (key value budget : ℕ) (hand : HandView) (answer : Result (Option ℕ) (HandView × ℕ)) : Type 0 where
  pub steps : TookWithin p.trace q.trace budget
  pub takes_no_slot : TakesNoSlot p q
  pub since : ℕ
  pub took : Took p.trace q.trace since
  pub put : IfOk answer (StoresHeld p q key value 0 since budget hand)
  pub kept : IfErr answer (HoldsUnput p q key 0 budget hand)

-- ---- of a call in progress. Only contracts of private functions cite this.

abbrev pub ReplacesFor : {N : Type 0} {kind : Ghosts N} → ℕ → PendingCall N kind → PendingCall N kind → HandView → Entry → Type 0
ReplacesFor value c d hand entry = TakesPlace (pass_in c) (pass_in d) c.key value c.used d.used c.budget hand entry

abbrev pub KeepsUnreplaced : {N : Type 0} {kind : Ghosts N} → PendingCall N kind → PendingCall N kind → HandView → Entry → HandView × NotReplaced → Type 0
KeepsUnreplaced c d hand entry told = HoldsUnreplaced (pass_in c) (pass_in d) c.key c.used d.used c.budget hand entry told
