-- A call through a handle among the calls by which somebody is answered: the top-up of a reserve after it is made in the steps that it left.
use Rattle.std.specs.Prelude.{ℕ, Bool, Option, Result}
use Rattle.vbr_machine.specs.declared.history.Op.TheVariants.{Insert}
use Rattle.vbr_at_table.specs.declared.refusal.Refusal.{Refusal}
use Rattle.vbr_set.specs.progress.Callers.{CallsAndGoesOn, MadeAmply}
use Rattle.vbr_set.specs.calls.MapCalls.{AddsEntry, GetsOrInsertsEntry, InsertsEntry, PutsEntry}
use Rattle.vbr_set.specs.calls.Members.{Called, MemberView as Member}
use Rattle.vbr_handles.specs.ToppingUp.{CallsAndTopsUp, has_added, has_stored_new}

module _ {A : Type 0} (Calls : Member → Member → Result A Refusal → Type 0) (adds : Result A Refusal → Bool) (budget : ℕ) (m n : Member) (answer : Result A Refusal) where
  -- if a call has a budget that is enough while no update is answered yes, it and its top-up are one such call, which goes on in the steps that are left
  abbrev pub IsAmplyMade : Type 0
  IsAmplyMade = (call : CallsAndTopsUp Calls adds budget m n answer) → MadeAmply m.pass call.between.pass budget → CallsAndGoesOn m.pass n.pass budget

-- the same for each call that may add a key: an insert, of a key or of an entry, a put, a fetch-and-add, and a get that inserts; no other is followed by a top-up
pub record HandlesCallAmply : Type 0 where
  pub inserted : (m n : Member) (key budget : ℕ) (answer : Result Bool Refusal) → IsAmplyMade (λ m n answer. Called Insert m n key budget answer) has_added budget m n answer
  pub inserted_entry : (m n : Member) (key value budget : ℕ) (answer : Result Bool Refusal) → IsAmplyMade (λ m n answer. InsertsEntry m n key value budget answer) has_added budget m n answer
  pub put : (m n : Member) (key value budget : ℕ) (answer : Result (Option ℕ) Refusal) → IsAmplyMade (λ m n answer. PutsEntry m n key value budget answer) has_stored_new budget m n answer
  pub added : (m n : Member) (key delta budget : ℕ) (answer : Result (Option ℕ) Refusal) → IsAmplyMade (λ m n answer. AddsEntry m n key delta budget answer) has_stored_new budget m n answer
  pub got_or_inserted : (m n : Member) (key value budget : ℕ) (answer : Result (Option ℕ) Refusal) → IsAmplyMade (λ m n answer. GetsOrInsertsEntry m n key value budget answer) has_stored_new budget m n answer
