-- Removed nodes that are not retired yet, which are marked, or unlinked and not stamped; and the removes that were answered.
use Rattle.std.specs.Prelude.{ℕ, ◌+◌, ◌&&◌, Bool, true, false, List, [], ◌∷◌}
use Rattle.vbr_machine.specs.Start.{Start}
use Rattle.vbr_machine.specs.Accounts.{incarnations_after}
use Rattle.vbr_machine.specs.Incarnations.{State, Marked, Unlinked}
use Rattle.vbr_machine.specs.Nodes.{count_below, state_in}
use Rattle.vbr_machine.specs.Disturbances.{one_if}
use Rattle.vbr_machine.specs.declared.event.Event.{Event}
use Rattle.vbr_machine.specs.declared.history.Call.{Call}
use Rattle.vbr_machine.specs.declared.history.Op.{Op}
use Rattle.vbr_machine.specs.declared.history.Op.TheVariants.{Remove}

-- whether an incarnation is removed and not retired
abbrev pub is_unretired : State → Bool
is_unretired Marked = true
is_unretired (Unlinked pass unlinked) = true
is_unretired _ = false

-- how many are after a run, each the last of its slot
abbrev pub unretired_after : Start → List Event → ℕ
unretired_after start run = count_below (λ s. is_unretired (state_in (incarnations_after start run) s)) start.shape.slots

-- ---- removes

-- whether an operation is a remove
abbrev pub is_remove : Op → Bool
is_remove Remove = true
is_remove _ = false

-- how many of these calls are removes that were answered yes
abbrev pub removes : List Call → ℕ
removes [] = 0
removes (call ∷ calls) = one_if (is_remove call.op && call.reply) + removes calls
