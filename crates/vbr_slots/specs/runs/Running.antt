-- The state of a running table.
use Rattle.std.specs.Prelude.{◌≡◌, ◌≢◌, ◌⊎◌, ℕ, ◌≤◌, List, [], ◌∷◌}
use mathlib.Core.Option.{some}
use lib.ListN.{get_elem?}
use Rattle.atomic_table.specs.Table.{State as Standing}
use Rattle.vbr_machine.specs.Start.{Start, IsStart}
use Rattle.vbr_machine.specs.Runs.{IsRun, world_after, know_after}
use Rattle.vbr_machine.specs.Safety.{IsSafe}
use Rattle.vbr_machine.specs.declared.event.Event.{Event}
use Rattle.vbr_slots.specs.declared.rule.Witness.{Witness}
use Rattle.vbr_slots.specs.runs.TableStart.{TableStart}
use Rattle.vbr_slots.specs.runs.Rule.{EachBegins, IsSeen, Kept, nobody, times_in}
use Rattle.vbr_slots.specs.words.Words.{AreWordsOf}

-- what each witness knows from what it has seen is what it knows in the world after the run
abbrev pub EachKnows : Start → List Event → List Witness → Type 0
EachKnows start run [] = Unit {0}
EachKnows start run (m ∷ ms) = (know_after start m.seen m.who ≡ know_after start run m.who) × EachKnows start run ms

-- the table is the state of a safe run of the machine
-- The words of the table are those after the run. What each pass has seen begins the run and has all its own events, and the pass knows from it what it knows after the run.
-- Some pass has seen the whole run, or nothing has happened. No pass stands in two seats, which may be said of every number but that of tokens.
pub record IsRunning (opening : TableStart) (s : Standing (Unit {0}) (List Witness)) : Type 0 where
  pub run : List Event
  pub is_run : IsRun opening.start opening.passes run
  pub safe : IsSafe opening.start run
  pub words : AreWordsOf opening.start (world_after opening.start run) s.words
  pub begins : (j : ℕ) (v : List Witness) → get_elem? s.views j ≡ some v → EachBegins run v
  pub knows : (j : ℕ) (v : List Witness) → get_elem? s.views j ≡ some v → EachKnows opening.start run v
  pub seen : (run ≡ []) ⊎ IsSeen run s.views
  pub once : (who : ℕ) → who ≢ nobody → times_in who s.views ≤ 1

-- whatever meets the rule of the table is the state of a safe run of the machine
abbrev pub TheTableIsARun : Type 0
TheTableIsARun = (opening : TableStart) (s : Standing (Unit {0}) (List Witness)) → IsStart opening.start → Kept opening s → IsRunning opening s
