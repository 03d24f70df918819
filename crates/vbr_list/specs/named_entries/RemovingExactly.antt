-- A remove of one entry, and of no other: it takes out the entry's node, or answers that the set or map lacked it.
use Rattle.std.specs.Prelude.{◌≡◌, ℕ, Bool, true, false, Option, Some, None, Result, IfOk, IfErr, is_some}
use Rattle.vbr_machine.specs.History.{set_call}
use Rattle.vbr_machine.specs.Runs.{Begins}
use Rattle.vbr_machine.specs.declared.history.Call.{Call}
use Rattle.vbr_machine.specs.declared.history.Op.TheVariants.{Remove}
use Rattle.vbr_slots.specs.steps.Calls.{IsSame, Made, Quiet}
use Rattle.vbr_slots.specs.views.Views.{PassView, Trace}
use Rattle.vbr_at_table.specs.answers.Records.{MarksSlot}
use Rattle.vbr_at_table.specs.costs.WithinBudget.{TookWithin}
use Rattle.vbr_at_table.specs.declared.refusal.Refusal.{Refusal}
use Rattle.vbr_list.specs.calls.CallBounds.{GivesAlone}
use Rattle.vbr_list.specs.traversals.Leaving.{BoundsOfRemove}
use Rattle.vbr_list.specs.calls.LoneReplies.{AnswersAlone}
use Rattle.vbr_list.specs.named_entries.OtherEntries.{WasOther}
use Rattle.vbr_list.specs.calls.Told.{given_call, given_in}
use Rattle.vbr_list.specs.declared.entries.Entry.{Entry}

-- at a moment of what the pass did, it marked the node in a slot, which right before was an entry, with this birth and this key
pub record MarkedSlot (p q : Trace) (slot birth key : ℕ) : Type 0 where
  pub ended : Trace
  pub same : IsSame p ended
  pub to : Begins ended.seen q.seen
  pub marks : MarksSlot p ended slot birth key

-- the pass made this call, a remove of the key that was answered yes, and it marked the entry's node
pub record TakesOut (call : Call) (p q : Trace) (key : ℕ) (entry : Entry) : Type 0 where
  pub made : Made call p q
  pub alone : AnswersAlone p Remove key true
  pub marked : MarkedSlot p q entry.slot entry.birth key

-- the same for a map, whose remove gives this value
pub record TakesOutValue (p q : Trace) (key : ℕ) (entry : Entry) (value : ℕ) : Type 0 where
  pub takes : TakesOut (given_call p.who Remove key (Some value)) p q key entry
  pub gives : GivesAlone p (given_call p.who Remove key (Some value))

-- the pass made no call, and the set or map lacked the entry
pub record TakesOutNone (p q : Trace) (key : ℕ) (entry : Entry) : Type 0 where
  pub quiet : Quiet p q
  pub lacked : WasOther p q key entry

-- what is answered at a map: the value that was taken out, or that there was no such entry
abbrev pub TellsTaken : Trace → Trace → ℕ → Entry → Option ℕ → Type 0
TellsTaken p q key entry None = TakesOutNone p q key entry
TellsTaken p q key entry (Some value) = TakesOutValue p q key entry value

-- and at a set: whether the key was taken out
abbrev pub TellsKeyTaken : Trace → Trace → ℕ → Entry → Bool → Type 0
TellsKeyTaken p q key entry false = TakesOutNone p q key entry
TellsKeyTaken p q key entry true = TakesOut (set_call p.who Remove key true) p q key entry

-- and at a table, as it keeps the call. Only contracts of private functions cite this
abbrev pub TellsNodeTaken : Trace → Trace → ℕ → Entry → Option ℕ → Type 0
TellsNodeTaken p q key entry None = TakesOutNone p q key entry
TellsNodeTaken p q key entry (Some value) = TakesOut (given_in p Remove key (Some value)) p q key entry

-- a remove of one entry: the pass is the same, no slot is in hand, and it made no more steps than its budget; if it was refused, it made no call; it promises what a remove does besides
pub record RemovesOne {A : Type 0} (Tells : A → Type 0) (yes : A → Bool) (p q : PassView) (key budget : ℕ) (answer : Result A Refusal) : Type 0 where
  pub same : IsSame p.trace q.trace
  pub told : IfOk answer Tells
  pub quiet : IfErr answer (λ refusal. Quiet p.trace q.trace)
  pub hand : q.hand ≡ None
  pub steps : TookWithin p.trace q.trace budget
  pub bounds : BoundsOfRemove yes p q key budget answer

-- the same at a map, at a set, and at either
abbrev pub RemovesExactly : PassView → PassView → ℕ → Entry → ℕ → Result (Option ℕ) Refusal → Type 0
RemovesExactly p q key entry budget answer = RemovesOne (TellsTaken p.trace q.trace key entry) is_some p q key budget answer

abbrev pub RemovesKeyExactly : PassView → PassView → ℕ → Entry → ℕ → Result Bool Refusal → Type 0
RemovesKeyExactly p q key entry budget answer = RemovesOne (TellsKeyTaken p.trace q.trace key entry) (λ taken. taken) p q key budget answer

abbrev pub RemovesNodeExactly : PassView → PassView → ℕ → Entry → ℕ → Result (Option ℕ) Refusal → Type 0
RemovesNodeExactly p q key entry budget answer = RemovesOne (TellsNodeTaken p.trace q.trace key entry) is_some p q key budget answer
