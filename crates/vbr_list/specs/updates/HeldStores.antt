-- What a store, or an insert, promises by a slot that the pass has in hand. Only contracts of private functions cite this.
use Rattle.std.specs.Prelude.{◌≡◌, ℕ, Bool, true, false, Option, Result, Ok, Err, IfOk}
use Rattle.vbr_words.specs.declared.nodes.Nodes.{Ghosts}
use Rattle.vbr_machine.specs.declared.history.Op.TheVariants.{Get}
use Rattle.vbr_slots.specs.steps.Calls.{Made, Quiet}
use Rattle.vbr_slots.specs.views.Views.{PassView, Trace}
use Rattle.vbr_at_table.specs.hands.Hands.{HandView}
use Rattle.vbr_at_table.specs.declared.refusal.Refusal.{Refusal}
use Rattle.vbr_at_table.specs.declared.refusal.Refusal.TheVariants.{OutOfSteps as Short}
use Rattle.vbr_list.specs.calls.Pieces.{pass_in, trace_in}
use Rattle.vbr_list.specs.calls.Told.{given_call}
use Rattle.vbr_list.specs.updates.Holding.{AnswersHeld, PublishesHeld, StoresHeld, TiresHeld, TiresStoring}
use Rattle.vbr_list.specs.updates.Inserting.{HasHandAndRoom}
use Rattle.vbr_list.specs.updates.Outcomes.{ChangedAsWanted}
use Rattle.vbr_list.specs.updates.Settling.{StoredIn}
use Rattle.vbr_list.specs.updates.Wanted.{wants}
use Rattle.vbr_list.specs.declared.call.PendingCall.{PendingCall}
use Rattle.vbr_list.specs.declared.holding.StillInHand.{StillInHand}
use Rattle.vbr_list.specs.declared.holding.StillInHand.TheVariants.{Present as IsPresent, OutOfSteps as Tired}
use Rattle.vbr_list.specs.declared.storing.Unstored.{Unstored}
use Rattle.vbr_list.specs.declared.storing.Unstored.TheVariants.{Otherwise, OutOfSteps}
use Rattle.vbr_list.specs.declared.outcome.Outcome.{Outcome}
use Rattle.vbr_list.specs.declared.outcome.Outcome.TheVariants.{Unchanged}
use Rattle.vbr_list.specs.declared.wanted.Wanted.{Wanted}

-- the answer of a store whose slot wasn't published
abbrev pub answer_unstored : Unstored → Result Outcome Refusal
answer_unstored (Otherwise there) = Ok (Unchanged there)
answer_unstored (OutOfSteps used) = Err (Short used)

-- why the slot in hand of an insert wasn't published
abbrev pub still_in_hand : Unstored → StillInHand
still_in_hand (Otherwise there) = IsPresent
still_in_hand (OutOfSteps used) = Tired used

-- the slot in hand is published, by a store that gives what was there, or by an insert
abbrev pub StoresOrInserts : Bool → ℕ → PassView → PassView → ℕ → ℕ → ℕ → ℕ → HandView → Option ℕ → Type 0
StoresOrInserts true value p q key before since budget hand there = StoresHeld p q key value before since budget hand there
StoresOrInserts false value p q key before since budget hand there = PublishesHeld p q key value before since hand

-- what was there is as wanted, and the value is stored
pub record StoresWanted {N : Type 0} {kind : Ghosts N} (gives : Bool) (value : ℕ) (wanted : Wanted) (c d : PendingCall N kind) (hand : HandView) (there : Option ℕ) : Type 0 where
  pub is : wants wanted there ≡ true
  pub stores : StoresOrInserts gives value (pass_in c) (pass_in d) c.key c.used d.used c.budget hand there

-- the call is answered with what is there soon after its last search
pub record AnswersOther (p q : Trace) (key before since budget : ℕ) (there : Option ℕ) : Type 0 where
  pub told : Made (given_call p.who Get key there) p q
  pub paid : StoredIn false p q key before since budget

-- there are no steps left
pub record TiresHolding (p q : Trace) (key before used budget : ℕ) : Type 0 where
  pub quiet : Quiet p q
  pub tires : TiresStoring p q key before used budget

-- why no value is stored, or inserted; an insert that is answered no has none, whichever it was to insert
abbrev pub SaysUnstored : Bool → Trace → Trace → ℕ → ℕ → ℕ → ℕ → Unstored → Type 0
SaysUnstored true p q key before since budget (Otherwise there) = AnswersOther p q key before since budget there
SaysUnstored true p q key before since budget (OutOfSteps used) = TiresHolding p q key before used budget
SaysUnstored false p q key before since budget (Otherwise there) = (value : ℕ) → AnswersHeld p q key value before since false
SaysUnstored false p q key before since budget (OutOfSteps used) = TiresHeld p q key before used budget

-- the slot is in hand as before; a call that was answered found the key in another state than is wanted
pub record KeepsUnstored {N : Type 0} {kind : Ghosts N} (gives : Bool) (wanted : Wanted) (c d : PendingCall N kind) (hand : HandView) (told : HandView × Unstored) : Type 0 where
  pub same : told.0 ≡ hand
  pub has : HasHandAndRoom (pass_in d) told.0
  pub is_not : IfOk (answer_unstored told.1) (ChangedAsWanted (wants wanted))
  pub says : SaysUnstored gives (trace_in c) (trace_in d) c.key c.used d.used c.budget told.1
