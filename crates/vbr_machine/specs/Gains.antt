-- How many slots other passes take out of the shared pool.
use Rattle.std.specs.Prelude.{ℕ, ◌+◌, ◌==◌, ◌&&◌, not, Bool, true, false, List, [], ◌∷◌}
use Rattle.vbr_machine.specs.Start.{Start}
use Rattle.vbr_machine.specs.Accounts.{chronicle}
use Rattle.vbr_machine.specs.Chronicles.{Happening, Gains, Entry}
use Rattle.vbr_machine.specs.Disturbances.{one_if}
use Rattle.vbr_machine.specs.declared.event.Event.{Event}

-- whether an event is a gain: a slot is taken out of the shared pool
abbrev pub is_gain : Happening → Bool
is_gain (Gains s) = true
is_gain _ = false

-- how many of these events are gains of other passes than one
abbrev pub gains_in : ℕ → List Entry → ℕ
gains_in who [] = 0
gains_in who (entry ∷ entries) = one_if (not (entry.pass == who) && is_gain entry.what) + gains_in who entries

-- how many slots other passes took out of the shared pool in a run
abbrev pub gains : Start → List Event → ℕ → ℕ
gains start run who = gains_in who (chronicle start run)
