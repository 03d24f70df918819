-- What a call promises that stores a value, or inserts a key. Only contracts of private functions cite this.
use Rattle.std.specs.Prelude.{◌≡◌, ℕ, Bool, true, false, Result}
use Rattle.vbr_slots.specs.views.Views.{PassView}
use Rattle.vbr_at_table.specs.declared.refusal.Refusal.{Refusal}
use Rattle.vbr_list.specs.calls.CallBounds.{BoundsOfInsert, CallsAs}
use Rattle.vbr_list.specs.calls.Told.{stored_in}
use Rattle.vbr_list.specs.updates.Outcomes.{changed_in, there_in}
use Rattle.vbr_list.specs.updates.Storing.{CallsStore}
use Rattle.vbr_list.specs.declared.outcome.Outcome.{Outcome}
use Rattle.vbr_list.specs.declared.wanted.Wanted.{Wanted}
use Rattle.vbr_list.specs.declared.wanted.Wanted.TheVariants.{Absent}

-- a call gives what was there only at a table whose nodes have values; one that gives nothing wants its key absent, as an insert does
abbrev pub MayUpdate : Bool → Bool → Wanted → Type 0
MayUpdate true values wanted = values ≡ true
MayUpdate false values wanted = wanted ≡ Absent

-- what a store promises; or, if nothing is given, what an insert promises, which is answered yes if it changed what was there
abbrev pub CallsUpdate : Bool → PassView → PassView → ℕ → ℕ → Wanted → ℕ → Result Outcome Refusal → Type 0
CallsUpdate true p q key value wanted budget answer = CallsStore p q key value wanted budget (there_in answer)
CallsUpdate false p q key value wanted budget answer = CallsAs (stored_in p.trace key value) (BoundsOfInsert p q key budget) p q budget (changed_in answer)
