-- The balance of a member: the number of keys that its calls have added, less the number that they took out.
use Rattle.std.specs.Prelude.{ℕ, zero, suc, ℤ, pos, negsuc, ◌+ℤ◌, Bool, true, List, [], ◌∷◌, Result, Ok, Err, length, if◌then◌else◌}
use Rattle.std.specs.Int.{w64, int_wrap}
use Rattle.vbr_machine.specs.Start.{Start}
use Rattle.vbr_machine.specs.declared.history.Call.{Call}
use Rattle.vbr_machine.specs.declared.history.Op.{Op}
use Rattle.vbr_machine.specs.declared.history.Op.TheVariants.{Insert, Remove}
use Rattle.vbr_slots.specs.steps.Calls.{made_by}
use Rattle.vbr_at_table.specs.declared.refusal.Refusal.{Refusal}
use Rattle.vbr_set.specs.calls.Members.{MemberView}

-- what a call does to the number of keys: an insert answered yes adds one, a remove answered yes takes one away
abbrev pub change_by : Op → Bool → ℤ
change_by Insert true = pos 1
change_by Remove true = negsuc 0
change_by _ _ = pos 0

-- what calls do to it
abbrev pub change_of : List Call → ℤ
change_of [] = pos 0
change_of (call ∷ calls) = change_by call.op call.reply +ℤ change_of calls

-- the keys that a set opens with are counted to its first pass
abbrev pub opened_for : Start → ℕ → ℤ
opened_for start zero = pos (length start.keys)
opened_for start (suc who) = pos 0

-- the balance of a member: the keys that are counted to its pass at the opening, and what its calls have done, as far as 64 bits go
abbrev pub balance_of : MemberView → ℤ
balance_of m = int_wrap w64 (opened_for m.set.start m.pass.trace.who +ℤ change_of (made_by m.pass.trace))

-- one for an answer that passes a test, otherwise none
abbrev pub one_where : {A : Type 0} → (A → Bool) → Result A Refusal → ℤ
one_where test (Ok reply) = if test reply then pos 1 else pos 0
one_where test (Err refusal) = pos 0
