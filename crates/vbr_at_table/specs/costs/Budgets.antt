-- How many steps it takes a pass to take a slot: alone, and while others take slots out of the shared pool.
use Rattle.std.specs.Prelude.{ℕ, ◌+◌, ◌<◌, max, List, [], ◌∷◌}
use Rattle.vbr_machine.specs.Start.{Start}
use Rattle.vbr_words.specs.Flags.{flag_words}
use Rattle.vbr_slots.specs.declared.pass.TheConstants.{POOL}
use Rattle.vbr_at_table.specs.declared.refusal.Refusal.{Refusal}
use Rattle.vbr_at_table.specs.declared.refusal.Refusal.TheVariants.{OutOfSteps, NoSlot, EpochSpent}

-- out of the shared pool into an empty own pool: a probe for each flag word, and one more if a word showed that another flag of it is set
abbrev pub steps_to_win : Start → ℕ
steps_to_win start = flag_words start.shape.slots + 1

-- with slots in the own pool: a read of the epoch, a stamp for each of them, an exchange of the epoch and a read of it, and a birth; with none, one comes there first
abbrev pub steps_to_take : Start → List ℕ → ℕ
steps_to_take start [] = steps_to_win start + 5
steps_to_take start (slot ∷ pool) = POOL + 4

-- the same, if more slots may have come into the own pool by then
abbrev pub most_to_take : Start → List ℕ → ℕ
most_to_take start [] = max (POOL + 4) (steps_to_win start + 5)
most_to_take start (slot ∷ pool) = POOL + 4

-- how many more probes than alone a pass makes whose own pool was empty, while others take so many slots out of the shared pool: no more than one for each of these; with slots in the own pool it makes none
abbrev pub probes_lost : List ℕ → ℕ → ℕ
probes_lost [] gains = gains
probes_lost (slot ∷ pool) gains = 0

-- so a slot is taken in so many steps, whatever others do
abbrev pub steps_to_take_among : Start → List ℕ → ℕ → ℕ
steps_to_take_among start pool gains = steps_to_take start pool + probes_lost pool gains

-- and in so many, if more slots may have come into the own pool by then
abbrev pub most_to_take_among : Start → List ℕ → ℕ → ℕ
most_to_take_among start pool gains = most_to_take start pool + probes_lost pool gains

-- a refusal for want of steps comes of a budget that has no room for so many steps: before each piece it must have room for eight, the most that a piece has
abbrev pub NeedsMore : ℕ → ℕ → Refusal → Type 0
NeedsMore steps budget (OutOfSteps used) = budget < steps + 7
NeedsMore steps budget NoSlot = Unit {0}
NeedsMore steps budget (EpochSpent epoch) = Unit {0}
