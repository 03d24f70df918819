-- Which value a store gives a key: one that its caller names, or a sum with what was there.
use Rattle.std.specs.Prelude.{ℕ, ◌+◌, ◌%◌, ◌^◌, Option, Some, None, Result, Ok, Err}
use Rattle.vbr_list.specs.declared.new_value.NewValue.{NewValue}
use Rattle.vbr_list.specs.declared.new_value.NewValue.TheVariants.{Exactly, Sum}

-- the value that was there and this one, added as numbers of 64 bits; this one alone if the key was absent
abbrev pub sum_after : ℕ → Option ℕ → ℕ
sum_after delta None = delta
sum_after delta (Some old) = (old + delta) % 2 ^ 64

-- the same by an answer, which is what was there; a refusal stores nothing
abbrev pub sum_in : {E : Type 0} → ℕ → Result (Option ℕ) E → ℕ
sum_in delta (Ok there) = sum_after delta there
sum_in delta (Err refusal) = delta

-- the value that a store gives a key if this was there
abbrev pub value_after : NewValue → Option ℕ → ℕ
value_after (Exactly value) there = value
value_after (Sum delta) there = sum_after delta there

-- the same by an answer
abbrev pub value_by : {E : Type 0} → NewValue → Result (Option ℕ) E → ℕ
value_by (Exactly value) answer = value
value_by (Sum delta) answer = sum_in delta answer
