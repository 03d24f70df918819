-- What a call tells at a table whose nodes have no values: an entry is a key there.
use Rattle.std.proofs.Common.{◌≡◌, ◌≢◌, ℕ, ◌+◌, Bool, true, false, Option, Some, ap, subst}
use Rattle.std.specs.Prelude.{Result, Ok, Err, IfOk, OnOk}
use Rattle.vbr_machine.specs.History.{set_call}
use Rattle.vbr_machine.specs.declared.history.Call.{Call}
use Rattle.vbr_machine.specs.declared.history.Op.{Op}
use Rattle.vbr_machine.specs.declared.history.Op.TheVariants.{Get, Insert, Remove}
use Rattle.vbr_words.specs.declared.place.At.{At}
use Rattle.vbr_slots.specs.steps.Calls.{Made}
use Rattle.vbr_slots.specs.views.Views.{PassView, Trace}
use Rattle.vbr_at_table.specs.answers.Answering.{AnswersPresent, IsAnswered}
use Rattle.vbr_at_table.specs.answers.Exchanges.{InsertsNode, InsertsKey, StoresIn}
use Rattle.vbr_at_table.specs.hands.Hands.{HandView}
use Rattle.vbr_at_table.specs.answers.Values.{AnswersEntry, LinksEntry, entry_call, IsAsked, IsValued, MarksEntry}
use Rattle.vbr_at_table.specs.answers.Values.{RemovesKey}
use Rattle.vbr_at_table.specs.answers.Values.{steps_to_update, steps_to_value}
use Rattle.vbr_at_table.specs.declared.held.Held.{Held}
use Rattle.vbr_at_table.specs.declared.held.Marked.{Marked}
use Rattle.vbr_at_table.specs.declared.rollback.Rollback.{Rollback}
use Rattle.vbr_at_table.proofs.steps.MadeCalls.{of_set}
use Rattle.vbr_at_table.proofs.answers.NoValues.{none_kept, not_valued}

-- ---- what they ask

-- no value has to be known there
pub key_valued : (p : Trace) (place : At) → p.start.shape.values ≡ false → IsValued p place
key_valued p place bare has = not_valued bare has

-- nor does an operation ask for one that is no get
pub key_asked : (p : Trace) (op : Op) (place : At) → op ≢ Get → IsAsked p op place
key_asked p op place other get = absurd (other get)

-- ---- what they tell

-- the call has no value
key_call : (p : Trace) (op : Op) (key value : ℕ) → p.start.shape.values ≡ false →
    entry_call p.start p.who op key true value ≡ set_call p.who op key true
key_call p op key value bare =
    ap (λ (v : Option ℕ). record { who = p.who; op = op; key = key; reply = true; value = v })
    (none_kept p.start bare (Some value))

-- a mark removes the key
pub key_removed : (p q : Trace) (node : Held) (result : Result Marked Rollback) → p.start.shape.values ≡ false →
    IfOk result (MarksEntry p q node) → IfOk result (RemovesKey p q node)
key_removed p q node (Ok now) bare removed = record {
  made = λ key k.
      subst (λ (call : Call). Made call p q) (key_call p Remove key 0 bare)
      (removed.made key 0 k (λ has. not_valued bare has));
  place = removed.place;
  link = removed.link;
  held = removed.held;
  out = removed.out;
  leaves = removed.leaves;
  alone = removed.alone;
}
key_removed p q node (Err rollback) bare removed = tt

-- an update inserts the key
pub key_inserted : (p q : PassView) (key value : ℕ) (result : Result (Unit {0}) (HandView × Rollback)) →
    p.trace.start.shape.values ≡ false → IfOk result (λ done. LinksEntry p q key value) →
    IfOk result (λ done. InsertsKey p q key)
key_inserted p q key value (Ok done) bare inserted =
    subst (λ (call : Call). InsertsNode call p q) (key_call p.trace Insert key value bare) inserted
key_inserted p q key value (Err back) bare inserted = tt

-- in three steps
pub key_stored : (p q : PassView) → p.trace.start.shape.values ≡ false → StoresIn p q (steps_to_update p.trace.start) →
    StoresIn p q 3
key_stored p q bare stores =
    let P : Bool → Type 0 = λ values. StoresIn p q (1 + steps_to_value values + 1 + 1) in subst P bare stores

-- and an answer by the presence of the entry is one by the presence of the key, of an operation that is no get
pub key_present : (p q : Trace) (op : Op) (node : Held) (result : Result (Unit {0}) Rollback) → op ≢ Get →
    OnOk result (AnswersEntry p q op node) → OnOk result (AnswersPresent p q op node)
key_present p q op node (Ok done) other told = λ key k.
    subst (λ (call : Call). IsAnswered p q call) (of_set p.who op key other)
    (told.answers key 0 k (λ get. absurd (other get)))
key_present p q op node (Err rollback) other told = tt
