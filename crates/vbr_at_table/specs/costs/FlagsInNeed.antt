-- When a pass needs a flag: only if it has no slot. How many flags it has won, and how often it went beyond that need.
use Rattle.std.specs.Prelude.{◌≡◌, ℕ, ◌+◌, ◌==◌, ◌&&◌, nat_lt, Bool, false, List, [], ◌∷◌}
use Rattle.vbr_words.specs.Flags.{has_flag}
use Rattle.vbr_machine.specs.Disturbances.{one_if}
use Rattle.vbr_machine.specs.Machine.{World, after, found, opening}
use Rattle.vbr_machine.specs.Nodes.{count_below}
use Rattle.vbr_machine.specs.Start.{Start}
use Rattle.vbr_machine.specs.Whereabouts.{may_bear}
use Rattle.vbr_machine.specs.declared.event.Event.{Event}
use Rattle.vbr_machine.specs.declared.event.Step.{Step}
use Rattle.vbr_machine.specs.declared.event.Step.TheVariants.{Raise, TakeFlag}
use Rattle.vbr_slots.specs.views.Views.{Trace}

-- ---- steps

-- whether a step wins a flag: it takes a slot that is in the shared pool
abbrev pub wins_flag : Start → World → ℕ → Step → Bool
wins_flag start w pass (TakeFlag s) = has_flag (found start w (TakeFlag s)) s
wins_flag start w pass _ = false

-- how many slots a pass may give birth in, by what it knows: those of its own pool, and the one in its hand
abbrev pub slots_with : Start → World → ℕ → ℕ
slots_with start w pass = count_below (λ s. may_bear ((w.know pass).own s)) start.shape.slots

-- whether a step goes beyond the need of its pass: it wins a flag though the pass has a slot, or raises one though the pass has no other slot
abbrev pub goes_beyond : Start → World → ℕ → Step → Bool
goes_beyond start w pass (TakeFlag s) = wins_flag start w pass (TakeFlag s) && nat_lt 0 (slots_with start w pass)
goes_beyond start w pass (Raise s) = nat_lt (slots_with start w pass) 2
goes_beyond start w pass _ = false

-- ---- along a run

-- how many of these events are steps that pass a test, which sees the world that each finds
abbrev pub count_along : (World → Event → Bool) → Start → World → List Event → ℕ
count_along test start w [] = 0
count_along test start w (event ∷ events) = one_if (test w event) + count_along test start (after start w event.pass event.step) events

-- how many steps of a pass do
abbrev pub own_along : (World → ℕ → Step → Bool) → Start → World → List Event → ℕ → ℕ
own_along test start w events who = count_along (λ found_world event. (event.pass == who) && test found_world event.pass event.step) start w events

-- how many flags the pass has won: how many slots it took out of the shared pool
unfoldable pub flags_won : Trace → ℕ
flags_won p = own_along (wins_flag p.start) p.start (opening p.start) p.seen p.who

-- how often it has gone beyond its need
unfoldable pub times_beyond : Trace → ℕ
times_beyond p = own_along (goes_beyond p.start) p.start (opening p.start) p.seen p.who

-- ---- from one view to another

-- the pass won no flag, and raised none beyond its need
pub record WinsNoFlag (p q : Trace) : Type 0 where
  pub won : flags_won q ≡ flags_won p
  pub beyond : times_beyond q ≡ times_beyond p
