-- Runs of the machine: lists of events, each accepted after those before it.
use Rattle.std.specs.Prelude.{◌≡◌, ◌≢◌, ℕ, ◌<◌, ◌≤◌, List, [], ◌∷◌, ◌++◌, ◌⊎◌}
use Rattle.vbr_machine.specs.Start.{Start}
use Rattle.vbr_machine.specs.Knowledge.{Know}
use Rattle.vbr_machine.specs.Acceptance.{IsInShape, IsOwned, HasChecked, IsInRange, IsBelowLast, Accepts}
use Rattle.vbr_machine.specs.Machine.{World, opening, after}
use Rattle.vbr_machine.specs.declared.event.Event.{Event}
use Rattle.vbr_machine.specs.declared.event.CoreRefusal.{CoreRefusal}
use Rattle.vbr_machine.specs.declared.event.CoreRefusal.TheVariants.{NoSuchPass, NotOwned, NotHeld, OutOfRange, EpochLast, NoMemory}

-- an event is accepted: its pass is one of so many, and may make the step with what it knows
abbrev pub IsAccepted : Start → ℕ → World → Event → Type 0
IsAccepted start passes w event = (event.pass < passes) × Accepts start (w.know event.pass) event.step

-- why an event is refused: the first that fails of the pass, the shape, what the pass owns, what it has checked, the numbers, and the last epoch; want of memory refuses only what would be accepted
abbrev pub Refuses : Start → ℕ → World → Event → CoreRefusal → Type 0
Refuses start passes w event NoSuchPass = passes ≤ event.pass
Refuses start passes w event NotOwned =
    (event.pass < passes) × IsInShape start event.step × ¬ (IsOwned (w.know event.pass) event.step)
Refuses start passes w event NotHeld =
    (event.pass < passes) × IsInShape start event.step × IsOwned (w.know event.pass) event.step × ¬ (HasChecked start (w.know event.pass) event.step)
Refuses start passes w event OutOfRange =
    (event.pass < passes)
    × (¬ (IsInShape start event.step)
    ⊎ (IsInShape start event.step × IsOwned (w.know event.pass) event.step × HasChecked start (w.know event.pass) event.step × ¬ (IsInRange start (w.know event.pass) event.step)))
Refuses start passes w event EpochLast =
    (event.pass < passes) × IsInShape start event.step × IsOwned (w.know event.pass) event.step × HasChecked start (w.know event.pass) event.step
    × IsInRange start (w.know event.pass) event.step × ¬ (IsBelowLast start event.step)
Refuses start passes w event NoMemory = IsAccepted start passes w event

-- the world that events lead to from a world
abbrev pub world_from : Start → World → List Event → World
world_from start w [] = w
world_from start w (event ∷ events) = world_from start (after start w event.pass event.step) events

-- events from a world are each accepted after those before
abbrev pub AreAccepted : Start → ℕ → World → List Event → Type 0
AreAccepted start passes w [] = Unit {0}
AreAccepted start passes w (event ∷ events) = IsAccepted start passes w event × AreAccepted start passes (after start w event.pass event.step) events

-- a run is a list of events that are accepted from the opening on
abbrev pub IsRun : Start → ℕ → List Event → Type 0
IsRun start passes run = AreAccepted start passes (opening start) run

-- the world after a run
abbrev pub world_after : Start → List Event → World
world_after start run = world_from start (opening start) run

-- what a pass knows after a run
abbrev pub know_after : Start → List Event → ℕ → Know
know_after start run pass = (world_after start run).know pass

-- no event of a pass
abbrev pub NoneOf : ℕ → List Event → Type 0
NoneOf pass [] = Unit {0}
NoneOf pass (event ∷ events) = (event.pass ≢ pass) × NoneOf pass events

-- one list of events begins another
abbrev pub Begins : List Event → List Event → Type 0
Begins seen run = (rest : List Event) × (run ≡ seen ++ rest)

-- what a pass has seen begins a run and has all of its own events
abbrev pub BeginsFor : ℕ → List Event → List Event → Type 0
BeginsFor pass seen run = (rest : List Event) × (run ≡ seen ++ rest) × NoneOf pass rest
