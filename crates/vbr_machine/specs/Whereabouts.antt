-- Where each slot is after a run, by what is in it, and how many slots are where.
use Rattle.std.specs.Prelude.{◌≡◌, ℕ, zero, suc, ◌+◌, ◌<◌, Bool, true, false, List, ◌∷◌, ◌++◌, Option, Some}
use Rattle.vbr_machine.specs.Start.{Start}
use Rattle.vbr_words.specs.declared.place.At.{At}
use Rattle.vbr_machine.specs.Accounts.{incarnations_after}
use Rattle.vbr_machine.specs.Machine.{is_shared}
use Rattle.vbr_machine.specs.Nodes.{count_below, is_linked, is_marked, state_in}
use Rattle.vbr_machine.specs.Runs.{know_after, world_after}
use Rattle.vbr_machine.specs.declared.event.Event.{Event}
use Rattle.vbr_machine.specs.declared.knowledge.Holding.{Holding}
use Rattle.vbr_machine.specs.declared.knowledge.Holding.TheVariants.{Free, Unlinked, InHand}
use Rattle.vbr_machine.specs.declared.event.Step.TheVariants.{Unlink}

-- ---- one slot

-- where a slot is: in the shared pool; with a pass, in its own pool or its hand; in the set, as the node of a key; in a list still, but marked; or with the pass that unlinked it, and unstamped
pub data Whereabouts : Type 0 where
  InSharedPool : Whereabouts
  WithPass : (pass : ℕ) → Whereabouts
  InSet : Whereabouts
  MarkedInList : Whereabouts
  Unstamped : (pass : ℕ) → Whereabouts

-- whether a pass may give birth in a slot of which it knows this: the slot is free, or in its hand
abbrev pub may_bear : Option Holding → Bool
may_bear (Some (Free stamp)) = true
may_bear (Some (InHand known)) = true
may_bear _ = false

-- whether a pass unlinked a slot of which it knows this, and has not stamped it since
abbrev pub is_unstamped : Option Holding → Bool
is_unstamped (Some (Unlinked reread)) = true
is_unstamped _ = false

-- whether a slot is there after a run: in the shared pool by its flag; with a pass, or unstamped, by what the pass knows; in the set, or marked, by its last incarnation
abbrev pub is_at : Start → List Event → Whereabouts → ℕ → Bool
is_at start run InSharedPool s = is_shared ((world_after start run).place s)
is_at start run (WithPass pass) s = may_bear ((know_after start run pass).own s)
is_at start run InSet s = is_linked (state_in (incarnations_after start run) s)
is_at start run MarkedInList s = is_marked (state_in (incarnations_after start run) s)
is_at start run (Unstamped pass) s = is_unstamped ((know_after start run pass).own s)

-- the pass that has the slot, if one has, is one of so many
abbrev pub IsOfPasses : ℕ → Whereabouts → Type 0
IsOfPasses passes (WithPass pass) = pass < passes
IsOfPasses passes (Unstamped pass) = pass < passes
IsOfPasses passes _ = Unit {0}

-- a slot is somewhere, and nowhere else
pub record IsSomewhere (start : Start) (passes : ℕ) (run : List Event) (s : ℕ) : Type 0 where
  pub whereabouts : Whereabouts
  pub low : IsOfPasses passes whereabouts
  pub there : is_at start run whereabouts s ≡ true
  pub only : (other : Whereabouts) → is_at start run other s ≡ true → other ≡ whereabouts

-- ---- all slots

-- how many slots are there after a run
abbrev pub number_at : Start → List Event → Whereabouts → ℕ
number_at start run whereabouts = count_below (is_at start run whereabouts) start.shape.slots

-- a number of each of so many passes, added up
abbrev pub sum_of : ℕ → (ℕ → ℕ) → ℕ
sum_of zero number = 0
sum_of (suc pass) number = sum_of pass number + number pass

-- how many slots a pass has: in its own pool, in its hand, and unstamped
abbrev pub number_had : Start → List Event → ℕ → ℕ
number_had start run pass = number_at start run (WithPass pass) + number_at start run (Unstamped pass)

-- ---- one at a time

-- whenever the pass unlinked a slot in the run, or tried to, it had stamped each that it had unlinked before
abbrev pub UnlinksInTurn : Start → List Event → ℕ → Type 0
UnlinksInTurn start run pass =
    (before after : List Event) (pred : At) (expected s : ℕ) →
    run ≡ before ++ record { pass = pass; step = Unlink pred expected s } ∷ after → number_at start before (Unstamped pass) ≡ 0
