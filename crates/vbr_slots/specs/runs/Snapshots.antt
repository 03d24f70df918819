-- Reading the words of a table one after another while all its passes stand still. Only contracts of private functions cite this.
use Rattle.std.specs.Prelude.{◌≡◌, ◌⊎◌, ℕ, ◌<◌, List, [], ◌∷◌, ◌++◌}
use Rattle.atomic_table.specs.Table.{Me}
use Rattle.atomic_table.specs.declared.shared.Seat.{Seat}
use Rattle.vbr_words.specs.Places.{IsIn, index_of}
use Rattle.vbr_words.specs.declared.place.Place.{Place}
use Rattle.vbr_machine.specs.Machine.{word_at}
use Rattle.vbr_machine.specs.Runs.{IsRun, world_after}
use Rattle.vbr_machine.specs.declared.event.Event.{Event}
use Rattle.vbr_slots.specs.runs.TableStart.{TableStart}
use Rattle.vbr_slots.specs.declared.rule.Witness.{Witness}
use Rattle.vbr_slots.specs.runs.Rule.{EachBegins, HasSeen, opened_of, witness}
use Rattle.vbr_slots.specs.views.RunnerView.{IsSoundRunner, trace_of_runner}
use Rattle.vbr_slots.specs.views.StepperView.{IsWell}
use Rattle.vbr_slots.specs.views.Views.{PassView, TableView, Trace, counted_steps, steps_of}
use Rattle.vbr_slots.specs.declared.runner.Runner.TheInside.{Inside as RunnerInside}
use Rattle.vbr_slots.specs.declared.snapshot.Halted.{Halted}
use Rattle.vbr_slots.specs.declared.stepper.Stepper.TheInside.{Inside as StepperInside}
use Rattle.vbr_slots.specs.words.Words.{AreWordsOf, kept_at}

-- the witnesses of the seats of passes
abbrev pub witnesses_of : List PassView → List Witness
witnesses_of [] = []
witnesses_of (p ∷ ps) = witness (opened_of p.trace.start) p.trace.who p.trace.seen ∷ witnesses_of ps

-- each witness has the number of a pass
abbrev pub EachLow : ℕ → List Witness → Type 0
EachLow passes [] = Unit {0}
EachLow passes (m ∷ ms) = (m.who < passes) × EachLow passes ms

-- a seat of the table, which has witnesses of passes alone, and no slot of the table
pub record IsJoined (t : TableView) (seat : Seat (Unit {0}) (List Witness)) : Type 0 where
  pub table : seat.table_id ≡ t.table
  pub free : seat.me.1 ≡ []
  pub low : EachLow t.passes seat.me.0

-- a stepper of this pass with what is kept
abbrev pub stepper_with : Trace → Halted → StepperInside
stepper_with trace kept = record { runner = trace; pool = kept.pool; hand = kept.hand; tried = kept.tried; tally = kept.tally }

-- what is kept is all of the pass but its seat: with a seat that has the witness of the pass alone it is that pass again
pub record IsKeptOf (p : PassView) (kept : Halted) : Type 0 where
  pub runner : RunnerInside
  pub sound : IsSoundRunner runner
  pub trace : trace_of_runner runner ≡ p.trace
  pub same : (kept.who ≡ runner.who) × (kept.opening ≡ runner.opening) × (kept.epoch ≡ runner.epoch)
  pub pool : kept.pool.items ≡ p.pool
  pub hand : kept.hand ≡ p.hand
  pub well : IsWell (stepper_with p.trace kept)
  pub steps : kept.steps ≡ counted_steps (steps_of p.trace)

-- this is kept of these passes, of the last one first
abbrev pub AreHalted : List PassView → List Halted → Type 0
AreHalted [] halted = halted ≡ []
AreHalted (p ∷ ps) halted = (others : List Halted) × (kept : Halted) × (halted ≡ others ++ kept ∷ []) × IsKeptOf p kept × AreHalted ps others

-- what each witness has seen begins the run, and one of them has seen all of it, or nothing has happened
abbrev pub IsLatest : List Event → List Witness → Type 0
IsLatest run ms = EachBegins run ms × ((run ≡ []) ⊎ HasSeen run ms)

-- the word with this index is r after a run which one of the witnesses has seen
pub record IsWordAt (opening : TableStart) (ms : List Witness) (index r : ℕ) : Type 0 where
  pub run : List Event
  pub is_run : IsRun opening.start opening.passes run
  pub latest : IsLatest run ms
  pub found : (place : Place) → IsIn opening.start.shape place → index_of opening.start.shape place ≡ index → r ≡ kept_at opening.start.shape place (word_at opening.start (world_after opening.start run) place)

-- what a load promises a seat that has the witnesses of all passes: the word after what these have seen, and nothing of the seat changes
pub record ReadsWord (opening : TableStart) (index : ℕ) (m : Me (Unit {0}) (List Witness)) (r : ℕ) (n : Me (Unit {0}) (List Witness)) : Type 0 where
  pub same : n ≡ m
  pub word : IsWordAt opening m.0 index r

-- the words are those after a run which one of the witnesses has seen
pub record AreReadBy (t : TableView) (ms : List Witness) (words : List ℕ) : Type 0 where
  pub run : List Event
  pub is_run : IsRun t.start t.passes run
  pub begins : EachBegins run ms
  pub are : AreWordsOf t.start (world_after t.start run) words
