-- How many slots other passes took out of the shared pool, in what a pass has seen.
use Rattle.std.specs.Prelude.{ℕ, ◌-◌}
use Rattle.vbr_machine.specs.Gains.{gains}
use Rattle.vbr_slots.specs.views.Views.{Trace}

-- how many they have taken by now
abbrev pub gained_by_now : Trace → ℕ
gained_by_now p = gains p.start p.seen p.who

-- and how many since
abbrev pub gained : Trace → Trace → ℕ
gained p q = gains p.start q.seen p.who - gained_by_now p
