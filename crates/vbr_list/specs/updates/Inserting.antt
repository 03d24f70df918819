-- An insert, piece by piece: it takes a slot once it has found the key absent, and then links it. A store takes one by the same piece. Only contracts of private functions cite this, and those of calls with a slot in hand.
use Rattle.std.specs.Prelude.{◌≡◌, ℕ, ◌+◌, ◌<◌, ◌≤◌, Bool, true, false, length, None}
use Rattle.vbr_words.specs.Buckets.{bucket_of}
use Rattle.vbr_words.specs.declared.nodes.Nodes.{Ghosts}
use Rattle.vbr_machine.specs.Runs.{Begins}
use Rattle.vbr_machine.specs.declared.history.Op.{Op}
use Rattle.vbr_machine.specs.declared.history.Op.TheVariants.{Insert, Remove}
use Rattle.vbr_slots.specs.declared.pass.TheConstants.{POOL}
use Rattle.vbr_slots.specs.steps.Calls.{Quiet}
use Rattle.vbr_slots.specs.views.Views.{Trace, PassView}
use Rattle.vbr_at_table.specs.costs.Advances.{AdvancesWhereNeeded}
use Rattle.vbr_at_table.specs.costs.Budgets.{steps_to_take_among}
use Rattle.vbr_at_table.specs.costs.Gained.{gained}
use Rattle.vbr_at_table.specs.hands.Hands.{HandView, IsHandOf}
use Rattle.vbr_at_table.specs.hands.KeptSlots.{HasStill, KeepsSlots, SharesWhereFull, TriesOnlyWhere, WinsInNeed}
use Rattle.vbr_at_table.specs.pools.Refusals.{HasNoSlot, IsSpent}
use Rattle.vbr_at_table.specs.costs.WithinBudget.{CountsSteps}
use Rattle.vbr_at_table.specs.declared.budget.TheConstants.{PIECE}
use Rattle.vbr_list.specs.calls.Budgets.{LacksSteps}
use Rattle.vbr_list.specs.traversals.Searching.{LosesFound, SearchesIn}
use Rattle.vbr_list.specs.updates.Wanted.{WasWanted}
use Rattle.vbr_list.specs.declared.wanted.Wanted.{Wanted}
use Rattle.vbr_list.specs.calls.Pieces.{IsSameCall, pass_in, trace_in}
use Rattle.vbr_list.specs.declared.call.PendingCall.{PendingCall}
use Rattle.vbr_list.specs.declared.found.Found.{Found}
use Rattle.vbr_at_table.specs.declared.refusal.Refusal.{Refusal}
use Rattle.vbr_at_table.specs.declared.refusal.Refusal.TheVariants.{OutOfSteps, NoSlot, EpochSpent}

-- the steps, counted on from those before, are within the budget
pub record CountsWithin (p q : Trace) (before since budget : ℕ) : Type 0 where
  pub counts : CountsSteps p q before since
  pub within : (before ≤ since) × (since ≤ budget)

-- the pass has a slot in hand, and a free place in its own pool
pub record HasHandAndRoom (q : PassView) (hand : HandView) : Type 0 where
  pub is : IsHandOf q hand
  pub room : length q.pool < POOL

-- ---- refusals

-- they leave no room in the budget for one more piece
pub record RunsShort (p q : Trace) (before used budget : ℕ) : Type 0 where
  pub counts : CountsWithin p q before used budget
  pub short : budget < used + PIECE

-- the epoch is spent, and the steps that showed it, counted on from those before, leave room in the budget for one more piece
pub record InsertShowsSpent (p q : PassView) (before budget epoch : ℕ) : Type 0 where
  pub spent : IsSpent q epoch
  pub since : ℕ
  pub counts : CountsWithin p.trace q.trace before since budget
  pub room : since + PIECE ≤ budget

-- what a refusal to take a slot says, after so many steps
abbrev pub TakesNone : PassView → PassView → ℕ → ℕ → Refusal → Type 0
TakesNone p q before budget (OutOfSteps used) = RunsShort p.trace q.trace before used budget
TakesNone p q before budget NoSlot = HasNoSlot p q
TakesNone p q before budget (EpochSpent epoch) = InsertShowsSpent p q before budget epoch

-- ---- an answer no

-- what is answered no if the key is present, and if it is absent: an insert, and a remove
abbrev pub denied : Bool → Op
denied true = Insert
denied false = Remove

-- nothing was answered, and no call was made, as what was found is lost
pub record AnswersNone {N : Type 0} {kind : Ghosts N} (c d : PendingCall N kind) (found : Found) : Type 0 where
  pub quiet : Quiet (trace_in c) (trace_in d)
  pub loses : LosesFound (trace_in c) (trace_in d) found

-- ---- a slot is taken

-- what is left before a slot is linked: the steps are within the budget, the epoch is advanced only if that is needed, no slot is lost, each slot that the pass had it still has, one is put into the shared pool only if the own one has at most two places left, and at most one flag is won
pub record Prepares {N : Type 0} {kind : Ghosts N} (c d : PendingCall N kind) : Type 0 where
  pub call : IsSameCall c d
  pub counts : CountsWithin (trace_in c) (trace_in d) c.used d.used c.budget
  pub advances : AdvancesWhereNeeded (pass_in c) (pass_in d)
  pub kept : KeepsSlots (pass_in c) (pass_in d)
  pub had : HasStill (pass_in c) (pass_in d)
  pub shared : SharesWhereFull 2 (pass_in c) (pass_in d)
  pub wins : WinsInNeed (pass_in c) (pass_in d)

-- a slot is in hand, in no more steps than that takes while others take slots out of the shared pool
pub record Provides {N : Type 0} {kind : Ghosts N} (c d : PendingCall N kind) (hand : HandView) : Type 0 where
  pub has : HasHandAndRoom (pass_in d) hand
  pub few : d.used ≤ c.used + steps_to_take_among (trace_in c).start (pass_in c).pool (gained (trace_in c) (trace_in d))

-- none is; a budget with seven steps more has enough
pub record ProvidesNone {N : Type 0} {kind : Ghosts N} (c d : PendingCall N kind) (refusal : Refusal) : Type 0 where
  pub hand : (pass_in d).hand ≡ None
  pub says : TakesNone (pass_in c) (pass_in d) c.used c.budget refusal
  pub enough : LacksSteps (c.used + steps_to_take_among (trace_in c).start (pass_in c).pool (gained (trace_in c) (trace_in d)) + 7) c.budget refusal

-- searches for a key, each but the last disturbed: nine steps for each node of each of them, so many for each that was disturbed, and so many more
abbrev pub Searches : ℕ → Trace → Trace → ℕ → ℕ → ℕ → ℕ → Type 0
Searches each p q key before since more = SearchesIn 9 each p q (bucket_of p.start.shape key) before since more

-- the same without a slot, and with one that is to be linked: seven steps for each that was disturbed
abbrev pub SearchesFor : Trace → Trace → ℕ → ℕ → ℕ → ℕ → Type 0
SearchesFor p q key before since more = Searches 7 p q key before since more

-- the same until a moment at which the pass had made no call yet
pub record SearchedFor (p q : Trace) (key before since more : ℕ) : Type 0 where
  pub ended : Trace
  pub quiet : Quiet p ended
  pub to : Begins ended.seen q.seen
  pub searches : SearchesFor p ended key before since more

-- the same for one whose budget has no room for one more piece, if it was refused for want of steps
abbrev pub SearchesInVain : Trace → Trace → ℕ → ℕ → ℕ → ℕ → Refusal → Type 0
SearchesInVain p q key before budget more (OutOfSteps used) = SearchesFor p q key before (budget + 1) more
SearchesInVain p q key before budget more NoSlot = Unit {0}
SearchesInVain p q key before budget more (EpochSpent epoch) = Unit {0}

-- it looked for a slot in the shared pool only if its own pool was empty, and the key had been there as wanted
abbrev pub TriesFor : {N : Type 0} {kind : Ghosts N} → Wanted → PendingCall N kind → PendingCall N kind → Type 0
TriesFor wanted c d = TriesOnlyWhere (WasWanted wanted (trace_in c) (trace_in d) c.key) (pass_in c) (pass_in d)

-- ---- the slot is linked

-- it isn't answered, and the hand comes back, as what was found is lost
pub record GivesHandBack {N : Type 0} {kind : Ghosts N} (c d : PendingCall N kind) (found : Found) (back : HandView) : Type 0 where
  pub quiet : Quiet (trace_in c) (trace_in d)
  pub hand : HasHandAndRoom (pass_in d) back
  pub loses : LosesFound (trace_in c) (trace_in d) found
