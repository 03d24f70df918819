-- What an insert or a store does before it changes anything: it finds its key in the wanted state and takes a slot, or is answered. Only contracts of private functions cite this.
use Rattle.std.specs.Prelude.{◌≡◌, ℕ, ◌+◌, ◌<◌, ◌≤◌, Bool, true, false, not, Option, None}
use Rattle.vbr_words.specs.declared.nodes.Nodes.{Ghosts}
use Rattle.vbr_machine.specs.History.{set_call}
use Rattle.vbr_machine.specs.declared.history.Call.{Call}
use Rattle.vbr_machine.specs.declared.history.Op.TheVariants.{Get, Insert}
use Rattle.vbr_slots.specs.steps.Calls.{Made, Quiet}
use Rattle.vbr_slots.specs.views.Views.{knows}
use Rattle.vbr_at_table.specs.hands.Hands.{HandView}
use Rattle.vbr_at_table.specs.costs.WithinBudget.{CountsSteps}
use Rattle.vbr_at_table.specs.reads.KeptKnowledge.{Keeps}
use Rattle.vbr_at_table.specs.reads.Reading.{ReadsIn}
use Rattle.vbr_at_table.specs.declared.budget.TheConstants.{PIECE}
use Rattle.vbr_at_table.specs.declared.refusal.Refusal.{Refusal}
use Rattle.vbr_list.specs.calls.Budgets.{steps_where}
use Rattle.vbr_list.specs.traversals.Disturbed.{steps_to_prepare}
use Rattle.vbr_list.specs.updates.Inserting.{CountsWithin, HasHandAndRoom, SearchedFor, SearchesFor, SearchesInVain, TakesNone}
use Rattle.vbr_list.specs.calls.Pieces.{IsSameCall, KeepsHand, pass_in, trace_in}
use Rattle.vbr_list.specs.look_ups.Telling.{IsThere}
use Rattle.vbr_list.specs.traversals.Searching.{LosesFound}
use Rattle.vbr_list.specs.traversals.Traversing.{LocatesFor}
use Rattle.vbr_list.specs.updates.Wanted.{WasWanted, WasWantedFor, steps_to_compare, wants}
use Rattle.vbr_list.specs.declared.call.PendingCall.{PendingCall}
use Rattle.vbr_list.specs.declared.found.Found.{Found}
use Rattle.vbr_list.specs.declared.preparing.Met.{Met}
use Rattle.vbr_list.specs.declared.preparing.Met.TheVariants.{AsWanted, Otherwise}
use Rattle.vbr_list.specs.declared.preparing.Prepared.{Prepared}
use Rattle.vbr_list.specs.declared.preparing.Prepared.TheVariants.{Ready, Answered}
use Rattle.vbr_list.specs.declared.preparing.Unmet.{Unmet}
use Rattle.vbr_list.specs.declared.preparing.Unmet.TheVariants as unmet
use Rattle.vbr_list.specs.declared.wanted.Wanted.{Wanted}
use Rattle.vbr_list.specs.declared.wanted.Wanted.TheVariants.{Absent, Present, Anything, Value}
use Rattle.vbr_list.specs.calls.Told.{given_call}
use Rattle.vbr_list.specs.look_ups.LookUpPieces.{IsAskedOf}

-- ---- the key is looked for

-- whether a present key, or an absent one, is in the wanted state, whatever value it has
abbrev pub has_wanted : Wanted → Bool → Bool
has_wanted Absent present = not present
has_wanted Present present = present
has_wanted Anything present = true
has_wanted (Value value) present = false

-- a call that gives nothing wants its key absent, as an insert does; a call that gives a value is made at a table whose nodes have one
pub record GivesOrInserts {N : Type 0} {kind : Ghosts N} (gives : Bool) (wanted : Wanted) (c : PendingCall N kind) : Type 0 where
  pub values : IsAskedOf c gives
  pub absent : gives ≡ false → wanted ≡ Absent

-- a piece that may answer the call: its steps are counted, at most three, and the slot in hand stays
pub record Asks {N : Type 0} {kind : Ghosts N} (c d : PendingCall N kind) : Type 0 where
  pub call : IsSameCall c d
  pub counts : CountsSteps (trace_in c) (trace_in d) c.used d.used
  pub hand : KeepsHand (pass_in c) (pass_in d)
  pub more : c.used ≤ d.used
  pub few : d.used ≤ c.used + 3

-- what was there was only read, and is as wanted
pub record ReadsWanted {N : Type 0} {kind : Ghosts N} (wanted : Wanted) (c d : PendingCall N kind) (found : Found) (there : Option ℕ) : Type 0 where
  pub read : ReadsIn (pass_in c) (pass_in d) (steps_where found.present)
  pub used : d.used ≡ c.used + steps_where found.present
  pub keeps : Keeps (knows (trace_in c)) (knows (trace_in d))
  pub locates : LocatesFor d found
  pub known : IsThere (knows (trace_in d)) found there
  pub is : wants wanted there ≡ true

-- the call that answers one which finds its key in another state: a get of what was there; or, if nothing is given, an insert that is answered no
abbrev pub told_otherwise : Bool → ℕ → ℕ → Option ℕ → Call
told_otherwise true who key there = given_call who Get key there
told_otherwise false who key there = set_call who Insert key false

-- it was answered with what was there, which isn't as wanted
pub record TellsOther {N : Type 0} {kind : Ghosts N} (gives : Bool) (wanted : Wanted) (c d : PendingCall N kind) (there : Option ℕ) : Type 0 where
  pub told : Made (told_otherwise gives (trace_in c).who c.key there) (trace_in c) (trace_in d)
  pub is_not : wants wanted there ≡ false

-- neither, in one step or more, as what was found is lost
pub record AskLoses {N : Type 0} {kind : Ghosts N} (c d : PendingCall N kind) (found : Found) : Type 0 where
  pub quiet : Quiet (trace_in c) (trace_in d)
  pub loses : LosesFound (trace_in c) (trace_in d) found
  pub more : c.used < d.used

-- why nothing is to be changed at the place that was found
abbrev pub SaysUnmet : {N : Type 0} {kind : Ghosts N} → Bool → Wanted → PendingCall N kind → PendingCall N kind → Found → Unmet → Type 0
SaysUnmet gives wanted c d found (unmet.Otherwise there) = TellsOther gives wanted c d there
SaysUnmet gives wanted c d found unmet.Changed = AskLoses c d found

-- searches that may answer the call: their steps are within the budget, and the slot in hand stays
pub record Meeting {N : Type 0} {kind : Ghosts N} (c d : PendingCall N kind) : Type 0 where
  pub call : IsSameCall c d
  pub counts : CountsWithin (trace_in c) (trace_in d) c.used d.used c.budget
  pub hand : KeepsHand (pass_in c) (pass_in d)

-- no call was made, and the key was found in the wanted state
pub record MeetsWanted {N : Type 0} {kind : Ghosts N} (wanted : Wanted) (c d : PendingCall N kind) : Type 0 where
  pub quiet : Quiet (trace_in c) (trace_in d)
  pub was : WasWanted wanted (trace_in c) (trace_in d) c.key
  pub searches : SearchesFor (trace_in c) (trace_in d) c.key c.used d.used (steps_to_compare wanted + 3)

-- the call was answered, as the key was found in another state
pub record MeetsOther {N : Type 0} {kind : Ghosts N} (gives : Bool) (wanted : Wanted) (c d : PendingCall N kind) (there : Option ℕ) : Type 0 where
  pub tells : TellsOther gives wanted c d there
  pub searched : SearchedFor (trace_in c) (trace_in d) c.key c.used d.used 6

-- one or the other
abbrev pub IsMet : {N : Type 0} {kind : Ghosts N} → Bool → Wanted → PendingCall N kind → PendingCall N kind → Met → Type 0
IsMet gives wanted c d AsWanted = MeetsWanted wanted c d
IsMet gives wanted c d (Otherwise there) = MeetsOther gives wanted c d there

-- neither: the budget has no room for one more piece
pub record MeetTires {N : Type 0} {kind : Ghosts N} (c d : PendingCall N kind) : Type 0 where
  pub quiet : Quiet (trace_in c) (trace_in d)
  pub short : c.budget < d.used + PIECE
  pub searches : SearchesFor (trace_in c) (trace_in d) c.key c.used (c.budget + 1) 11

-- ---- a slot is taken

-- the pass has a slot in hand, and has made no call
pub record HasPrepared {N : Type 0} {kind : Ghosts N} (wanted : Wanted) (c d : PendingCall N kind) (given : HandView) : Type 0 where
  pub quiet : Quiet (trace_in c) (trace_in d)
  pub hand : HasHandAndRoom (pass_in d) given
  pub searched : SearchedFor (trace_in c) (trace_in d) c.key c.used d.used (steps_to_prepare wanted (pass_in c) (trace_in d) + 3)

-- it was answered without one
pub record HasAnswered {N : Type 0} {kind : Ghosts N} (gives : Bool) (wanted : Wanted) (c d : PendingCall N kind) (there : Option ℕ) : Type 0 where
  pub tells : TellsOther gives wanted c d there
  pub spent : (pass_in d).hand ≡ None
  pub searched : SearchedFor (trace_in c) (trace_in d) c.key c.used d.used (steps_to_prepare wanted (pass_in c) (trace_in d) + 3)

-- one or the other
abbrev pub IsPrepared : {N : Type 0} {kind : Ghosts N} → Bool → Wanted → PendingCall N kind → PendingCall N kind → Prepared → Type 0
IsPrepared gives wanted c d (Ready hand) = HasPrepared wanted c d hand
IsPrepared gives wanted c d (Answered there) = HasAnswered gives wanted c d there

-- neither; a budget with seven steps more has enough
pub record PreparesNone {N : Type 0} {kind : Ghosts N} (wanted : Wanted) (c d : PendingCall N kind) (refusal : Refusal) : Type 0 where
  pub quiet : Quiet (trace_in c) (trace_in d)
  pub hand : (pass_in d).hand ≡ None
  pub says : TakesNone (pass_in c) (pass_in d) c.used c.budget refusal
  pub so : WasWantedFor wanted (trace_in c) (trace_in d) c.key refusal
  pub searches : SearchesInVain (trace_in c) (trace_in d) c.key c.used c.budget (steps_to_prepare wanted (pass_in c) (trace_in d) + 10) refusal
