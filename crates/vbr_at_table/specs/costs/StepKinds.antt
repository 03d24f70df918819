-- Kinds of steps, and how many of a kind a pass has made: those that would advance the epoch, those that raise a flag, those that try to take one, and those that give birth in a slot.
use Rattle.std.specs.Prelude.{◌≡◌, ℕ, ◌==◌, ◌&&◌, Bool, true, false, count_by}
use Rattle.vbr_machine.specs.Disturbances.{own_changes}
use Rattle.vbr_machine.specs.declared.event.Event.{Event}
use Rattle.vbr_machine.specs.declared.event.Step.{Step}
use Rattle.vbr_machine.specs.declared.event.Step.TheVariants.{Advance, Raise, TakeFlag, StoreBirth}
use Rattle.vbr_slots.specs.views.Views.{Trace}

-- whether a step would advance the epoch
abbrev pub is_advance : Step → Bool
is_advance (Advance from) = true
is_advance _ = false

-- whether a step raises a flag
abbrev pub is_raise : Step → Bool
is_raise (Raise slot) = true
is_raise _ = false

-- whether a step tries to take a flag
abbrev pub is_try : Step → Bool
is_try (TakeFlag slot) = true
is_try _ = false

-- whether a step gives birth in a slot
abbrev pub bears_in : ℕ → Step → Bool
bears_in slot (StoreBirth s birth) = s == slot
bears_in slot _ = false

-- how many of the steps that the pass has made are of a kind
abbrev pub made_of : (Step → Bool) → Trace → ℕ
made_of is p = count_by (λ (e : Event). (e.pass == p.who) && is e.step) p.seen

-- how many of the steps that the pass has made would advance the epoch
abbrev pub advances : Trace → ℕ
advances p = made_of is_advance p

-- how many flags the pass has raised: how often it put a slot into the shared pool
abbrev pub flags_raised : Trace → ℕ
flags_raised p = made_of is_raise p

-- how many flags the pass has tried to take: how often it looked for a slot in the shared pool
abbrev pub flags_tried : Trace → ℕ
flags_tried p = made_of is_try p

-- how many incarnations the pass has given birth to in a slot
abbrev pub births_in : ℕ → Trace → ℕ
births_in slot p = made_of (bears_in slot) p

-- the pass changed no list itself, and moved no epoch
pub record ChangesNone (p q : Trace) : Type 0 where
  pub same : (bucket : ℕ) → own_changes q.start q.seen q.who bucket ≡ own_changes p.start p.seen p.who bucket
