-- What a call did that changes a key only if what is there is as it is wanted: whether it changed it, and what was there.
use Rattle.std.specs.Prelude.{◌≡◌, ℕ, Bool, true, false, Option, Result, Ok, Err, IfOk}
use Rattle.vbr_list.specs.updates.Wanted.{wants}
use Rattle.vbr_list.specs.declared.outcome.Outcome.{Outcome}
use Rattle.vbr_list.specs.declared.outcome.Outcome.TheVariants.{Changed, Unchanged}
use Rattle.vbr_list.specs.declared.wanted.Wanted.TheVariants.{Value}

-- what was there: the value of the key, or none if it was absent
abbrev pub there_of : Outcome → Option ℕ
there_of (Changed there) = there
there_of (Unchanged there) = there

-- whether the call changed it
abbrev pub is_changed : Outcome → Bool
is_changed (Changed there) = true
is_changed (Unchanged there) = false

-- an answer without whether the call changed what was there
abbrev pub there_in : {E : Type 0} → Result Outcome E → Result (Option ℕ) E
there_in (Ok outcome) = Ok (there_of outcome)
there_in (Err refusal) = Err refusal

-- whether an answered call changed it
abbrev pub changed_in : {E : Type 0} → Result Outcome E → Result Bool E
changed_in (Ok outcome) = Ok (is_changed outcome)
changed_in (Err refusal) = Err refusal

-- it changed what was there exactly if that was as wanted
abbrev pub ChangedAsWanted : (Option ℕ → Bool) → Outcome → Type 0
ChangedAsWanted wanted (Changed there) = wanted there ≡ true
ChangedAsWanted wanted (Unchanged there) = wanted there ≡ false

-- an answered call that expects a value changed the key exactly if it had that value
abbrev pub ChangedIfExpected : {E : Type 0} → ℕ → Result Outcome E → Type 0
ChangedIfExpected expected answer = IfOk answer (ChangedAsWanted (wants (Value expected)))
