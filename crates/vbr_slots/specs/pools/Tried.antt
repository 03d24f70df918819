-- Which slot a pass tried last to take out of the shared pool.
use Rattle.std.specs.Prelude.{ℕ, ◌*◌, ◌/◌, ◌==◌, if◌then◌else◌, List, [], ◌∷◌, is_some}
use Rattle.vbr_words.specs.Dimensions.{Dimensions}
use Rattle.vbr_words.specs.Flags.{flag_words}
use Rattle.vbr_words.specs.declared.flags.TheConstants.{FLAGS}
use Rattle.vbr_machine.specs.declared.event.Event.{Event}
use Rattle.vbr_machine.specs.declared.event.Step.{Step}
use Rattle.vbr_machine.specs.declared.event.Step.TheVariants.{TakeFlag}
use Rattle.vbr_slots.specs.views.Views.{Trace}

-- the slot that a step tries to take, if it is of that kind, else the one before
abbrev pub tried_by : Step → ℕ → ℕ
tried_by (TakeFlag slot) before = slot
tried_by _ before = before

-- the slot that the pass tried last in these events, else the one before
unfoldable pub tried_in : ℕ → List Event → ℕ → ℕ
tried_in who [] before = before
tried_in who (e ∷ events) before = tried_in who events (if e.pass == who then tried_by e.step before else before)

-- the slot with which a pass of so many begins: if keys are spread, the first of a flag word, so that the passes begin as far apart as may be; else slot 0
abbrev pub first_tried : Dimensions → ℕ → ℕ → ℕ
first_tried shape passes who = if is_some shape.spread then FLAGS * (who * flag_words shape.slots / passes) else 0

-- the slot that the pass tried last in all that it has seen; if it tried none, the one with which it begins
unfoldable pub last_tried : Trace → ℕ
last_tried p = tried_in p.who p.seen (first_tried p.start.shape p.passes p.who)
