-- The budget that a number of steps stands for in a call that may take a slot.
use Rattle.std.specs.Prelude.{ℕ, ◌+◌, ◌-◌, ◌/◌, ◌==◌, if◌then◌else◌}
use Rattle.vbr_set.specs.calls.Members.{MemberView as Member}
use Rattle.vbr_handles.specs.declared.ample.TheConstants.{AMPLE_SLOTS, AMPLE_STEPS}

-- the ample budget of so many slots: a search may go through the words of all their flags, one for 64 slots
abbrev pub ample_steps : ℕ → ℕ
ample_steps slots = AMPLE_STEPS + (slots - AMPLE_SLOTS) / 64

-- the steps are the budget, but the ample steps stand for as many as the slots ask for
abbrev pub budget_among : ℕ → ℕ → ℕ
budget_among slots steps = if steps == AMPLE_STEPS then ample_steps slots else steps

-- the same for a member
abbrev pub budget_of : Member → ℕ → ℕ
budget_of m steps = budget_among m.set.start.shape.slots steps
