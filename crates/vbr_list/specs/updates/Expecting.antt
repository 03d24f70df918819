-- A remove of a key with any value, or only with the expected one: what it takes out, and which call of the history it is.
use Rattle.std.specs.Prelude.{ℕ, Bool, Option, Some, None, Result, is_some, if◌then◌else◌}
use Rattle.vbr_machine.specs.declared.history.Call.{Call}
use Rattle.vbr_machine.specs.declared.history.Op.{Op}
use Rattle.vbr_machine.specs.declared.history.Op.TheVariants.{Get, Remove}
use Rattle.vbr_slots.specs.views.Views.{PassView, Trace}
use Rattle.vbr_list.specs.traversals.Leaving.{BoundsOfRemove}
use Rattle.vbr_list.specs.calls.CallBounds.{CallsEntry}
use Rattle.vbr_list.specs.calls.Told.{given_call, given_in}
use Rattle.vbr_list.specs.updates.Wanted.{wants}
use Rattle.vbr_list.specs.declared.wanted.Wanted.TheVariants.{Value}
use Rattle.vbr_at_table.specs.declared.refusal.Refusal.{Refusal}

-- whether what was there is taken out: any value, or the expected one
abbrev pub takes_out : Option ℕ → Option ℕ → Bool
takes_out None = is_some
takes_out (Some expected) = wants (Value expected)

-- a remove; if a value is expected and another was there, or none, a get
abbrev pub op_to_remove : Option ℕ → Option ℕ → Op
op_to_remove None there = Remove
op_to_remove (Some expected) there = if wants (Value expected) there then Remove else Get

-- the call that shows what was there
abbrev pub removal_call : ℕ → ℕ → Option ℕ → Option ℕ → Call
removal_call who key expected there = given_call who (op_to_remove expected there) key there

-- so the table of a pass keeps it
abbrev pub removal_in : Trace → ℕ → Option ℕ → Option ℕ → Call
removal_in p key expected there = given_in p (op_to_remove expected there) key there

-- a remove of an entry with the expected value, which returns what was there
abbrev pub CallsRemoveIf : PassView → PassView → ℕ → ℕ → ℕ → Result (Option ℕ) Refusal → Type 0
CallsRemoveIf p q key expected budget answer = CallsEntry (removal_call p.trace.who key (Some expected)) (BoundsOfRemove (wants (Value expected)) p q key budget) p q budget answer
