-- The rule of the table: it is the state of a run of the machine, and what each pass has seen begins this run and has all its own events; what a token tells begins this run too.
use Rattle.std.specs.Prelude.{◌≡◌, ◌≢◌, ◌⊎◌, ℕ, zero, suc, ◌+◌, ◌==◌, List, [], ◌∷◌, ◌++◌, false, None}
use mathlib.Core.Option.{some}
use lib.ListN.{get_elem?}
use Rattle.atomic_table.specs.Table.{State as Standing, Me}
use Rattle.vbr_words.specs.Dimensions.{Dimensions}
use Rattle.vbr_machine.specs.Start.{Start, empty_start, start_with}
use Rattle.vbr_machine.specs.Knowledge.{Know}
use Rattle.vbr_machine.specs.Learning.{effect_of, learn}
use Rattle.vbr_machine.specs.Machine.{found}
use Rattle.vbr_machine.specs.Runs.{IsRun, world_after, NoneOf, BeginsFor}
use Rattle.vbr_machine.specs.declared.event.Event.{Event}
use Rattle.vbr_machine.specs.declared.event.Step.{Step}
use Rattle.vbr_machine.specs.declared.event.Step.TheVariants.{ReadEpoch}
use Rattle.vbr_slots.specs.declared.rule.Opened.{Opened}
use Rattle.vbr_slots.specs.declared.rule.Witness.{Witness}
use Rattle.vbr_slots.specs.runs.TableStart.{TableStart}
use Rattle.vbr_slots.specs.declared.opening.TheConstants.{MAX_MANY_PASSES}
use Rattle.vbr_slots.specs.words.Words.{AreWordsOf}
use Rattle.vbr_machine.specs.Disturbances.{one_if}

-- ---- what a table opened with

-- the keys and the values that a table starts with
abbrev pub opened_of : Start → Opened
opened_of start = record { keys = start.keys; payloads = start.payloads }

-- a start of this shape with these keys and values
abbrev pub with_opened : Dimensions → Opened → Start
with_opened shape opened = start_with shape opened.keys opened.payloads

-- ---- witnesses of seats

-- a pass of a table that opened with these keys and values, by its number, with what it has seen
abbrev pub witness : Opened → ℕ → List Event → Witness
witness opened who seen = record { opened = opened; who = who; seen = seen }

-- so many witnesses from a number on, which have seen nothing
abbrev pub witnesses : Opened → ℕ → ℕ → List Witness
witnesses opened k zero = []
witnesses opened k (suc n) = witness opened k [] ∷ witnesses opened (suc k) n

-- the witnesses of the first seat: all passes
abbrev pub first_witnesses : TableStart → List Witness
first_witnesses opening = witnesses (opened_of opening.start) 0 opening.passes

-- the first witness alone
abbrev pub head_of : List Witness → List Witness
head_of [] = []
head_of (m ∷ ms) = m ∷ []

-- the others
abbrev pub tail_of : List Witness → List Witness
tail_of [] = []
tail_of (m ∷ ms) = ms

-- what the first witness has seen
abbrev pub first_seen : List Witness → List Event
first_seen [] = []
first_seen (m ∷ ms) = m.seen

-- what the table of the first witness opened with
abbrev pub first_opened : List Witness → Opened
first_opened [] = record { keys = []; payloads = [] }
first_opened (m ∷ ms) = m.opened

-- the number of the witness of a token: no pass has it, since a table has at most so many passes, counted from 0
abbrev pub nobody : ℕ
nobody = MAX_MANY_PASSES

-- the witness of a token that tells what the first witness has seen
abbrev pub noted : List Witness → List Witness
noted ms = witness (first_opened ms) nobody (first_seen ms) ∷ []

-- what each witness has seen begins the run and has all its own events
abbrev pub EachBegins : List Event → List Witness → Type 0
EachBegins run [] = Unit {0}
EachBegins run (m ∷ ms) = BeginsFor m.who m.seen run × EachBegins run ms

-- a witness of the seat, and none of a token, has seen all of the run
abbrev pub HasSeen : List Event → List Witness → Type 0
HasSeen run [] = ⊥
HasSeen run (m ∷ ms) = ((m.who ≢ nobody) × (m.seen ≡ run)) ⊎ HasSeen run ms

-- a witness of some seat, and none of a token, has seen all of the run
abbrev pub IsSeen : List Event → List (List Witness) → Type 0
IsSeen run views = (j : ℕ) × (v : List Witness) × (get_elem? views j ≡ some v) × HasSeen run v

-- how many witnesses of a seat have this number
abbrev pub times : ℕ → List Witness → ℕ
times who [] = 0
times who (m ∷ ms) = one_if (m.who == who) + times who ms

-- and how many of all seats
abbrev pub times_in : ℕ → List (List Witness) → ℕ
times_in who [] = 0
times_in who (v ∷ vs) = times who v + times_in who vs

-- ---- the rule

-- the words are those of the world after a run, which the seats have seen
-- What each witness of each seat has seen begins this run and has all its own events. Nothing has happened, or some witness that is none of a token has seen all of it.
-- Each number but that of tokens stands as often in all seats as at the opening.
pub record Kept (opening : TableStart) (s : Standing (Unit {0}) (List Witness)) : Type 0 where
  pub run : List Event
  pub is_run : IsRun opening.start opening.passes run
  pub words : AreWordsOf opening.start (world_after opening.start run) s.words
  pub begins : (j : ℕ) (v : List Witness) → get_elem? s.views j ≡ some v → EachBegins run v
  pub seen : (run ≡ []) ⊎ IsSeen run s.views
  pub counted : (who : ℕ) → who ≢ nobody → times_in who s.views ≡ times who (first_witnesses opening)

-- ---- steps

-- an event, if none was picked yet
abbrev pub no_event : Event
no_event = record { pass = 0; step = ReadEpoch }

-- an opening, if none was picked yet
abbrev pub no_opening : TableStart
no_opening = record { start = empty_start (record { slots = 0; buckets = 0; spread = None; last_epoch = 0; values = false }); passes = 0 }

-- to its pass, a step that was shown r answers and teaches what one answers and teaches that found n; a store is shown what it stores
pub record Shows (step : Step) (r n : ℕ) : Type 0 where
  pub answers : effect_of step r ≡ effect_of step n
  pub teaches : (stamp : ℕ) (know : Know) → learn step r stamp know ≡ learn step n stamp know

-- what a step at the table promises: the first witness of the seat did the event, after what it had seen and what others did since, and is of a table that opened with these keys and values; it was shown r; and the other witnesses of the seat still begin the run
pub record Told (opening : TableStart) (e : Event) (m : Me (Unit {0}) (List Witness)) (r : ℕ) (n : Me (Unit {0}) (List Witness)) : Type 0 where
  pub rest : List Event
  pub none : NoneOf e.pass rest
  pub now : n ≡ (witness (opened_of opening.start) e.pass ((first_seen m.0 ++ rest) ++ e ∷ []) ∷ tail_of m.0, m.1)
  pub is_run : IsRun opening.start opening.passes ((first_seen m.0 ++ rest) ++ e ∷ [])
  pub shows : Shows e.step r (found opening.start (world_after opening.start (first_seen m.0 ++ rest)) e.step)
  pub others : EachBegins ((first_seen m.0 ++ rest) ++ e ∷ []) (tail_of m.0)

-- what catching up promises, which is no event: the pass of the first witness has then seen all of the run, which goes on after what it had seen by events of others; the tokens beside it, which are then spent, begin that run
pub record Caught (opening : TableStart) (who : ℕ) (m n : Me (Unit {0}) (List Witness)) : Type 0 where
  pub rest : List Event
  pub none : NoneOf who rest
  pub now : n ≡ (witness (opened_of opening.start) who (first_seen m.0 ++ rest) ∷ [], m.1)
  pub is_run : IsRun opening.start opening.passes (first_seen m.0 ++ rest)
  pub others : EachBegins (first_seen m.0 ++ rest) (tail_of m.0)
