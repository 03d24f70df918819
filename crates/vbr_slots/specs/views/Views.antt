-- What contracts see of a pass and of a table, and what a step does.
use Rattle.std.specs.Prelude.{◌≡◌, ℕ, zero, suc, ◌+◌, ◌^◌, ◌%◌, ◌==◌, count_by, List, [], ◌∷◌, ◌++◌, Option, None}
use Rattle.atomic_table.specs.Seated.{TableId}
use Rattle.vbr_machine.specs.Start.{Start}
use Rattle.vbr_machine.specs.Knowledge.{Know}
use Rattle.vbr_machine.specs.Learning.{learn}
use Rattle.vbr_machine.specs.Machine.{found, stamp_shown}
use Rattle.vbr_machine.specs.Runs.{IsRun, world_after, know_after, NoneOf}
use Rattle.vbr_machine.specs.declared.event.Event.{Event}
use Rattle.vbr_machine.specs.declared.event.Step.{Step}
use Rattle.vbr_machine.specs.declared.event.Step.TheVariants.{ReadEpoch}
use Rattle.vbr_slots.specs.runs.Rule.{Shows}

-- which pass of which table, and the events of the run that it has seen
pub record Trace : Type 0 where
  pub table : TableId
  pub start : Start
  pub passes : ℕ
  pub who : ℕ
  pub seen : List Event

-- a pass: its trace, its own pool with the oldest slot first, and the slot in its hand
pub record PassView : Type 0 where
  pub trace : Trace
  pub pool : List ℕ
  pub hand : Option ℕ

-- a table: which one it is, what it starts with, and how many passes it was opened with
pub record TableView : Type 0 where
  pub table : TableId
  pub start : Start
  pub passes : ℕ

-- the trace of a pass that has seen nothing
abbrev pub new_trace : TableView → ℕ → Trace
new_trace t who = record { table = t.table; start = t.start; passes = t.passes; who = who; seen = [] }

-- a pass that has seen nothing
abbrev pub new_pass : TableView → ℕ → PassView
new_pass t who = record { trace = new_trace t who; pool = []; hand = None }

-- so many passes from a number on, which have seen nothing
abbrev pub new_passes : TableView → ℕ → ℕ → List PassView
new_passes t who zero = []
new_passes t who (suc n) = new_pass t who ∷ new_passes t (suc who) n

-- the pass came from the opening of the table
abbrev pub IsOf : Trace → TableView → Type 0
IsOf p t = (p.table ≡ t.table) × (p.start ≡ t.start) × (p.passes ≡ t.passes)

-- what the machine has the pass know after all that it has seen
abbrev pub knows : Trace → Know
knows p = know_after p.start p.seen p.who

-- the last epoch read, after a step that found this word
abbrev pub epoch_after : Step → ℕ → ℕ → ℕ
epoch_after ReadEpoch found epoch = found
epoch_after _ found epoch = epoch

-- the pool and the hand of a pass stay
abbrev pub KeepsPool : PassView → PassView → Type 0
KeepsPool p q = (q.pool ≡ p.pool) × (q.hand ≡ p.hand)

-- a step of a pass, as an event
abbrev pub event_of : ℕ → Step → Event
event_of who step = record { pass = who; step = step }

-- how many of these events are the pass's own
abbrev pub steps_in : ℕ → List Event → ℕ
steps_in who events = count_by (λ (e : Event). e.pass == who) events

-- how many steps the pass has made: its own events in what it has seen
abbrev pub steps_of : Trace → ℕ
steps_of p = steps_in p.who p.seen

-- a number of steps as a count of 64 bits has it, which begins anew after 2 ^ 64
abbrev pub counted_steps : ℕ → ℕ
counted_steps steps = steps % 2 ^ 64

-- the pass made the step: after all that it had seen and what others did since, which the machine accepted as a run; it was shown r; and it knows what the machine has it learn from that
pub record Did (step : Step) (p q : Trace) (r : ℕ) : Type 0 where
  pub rest : List Event
  pub none : NoneOf p.who rest
  pub seen : q.seen ≡ (p.seen ++ rest) ++ event_of p.who step ∷ []
  pub is_run : IsRun p.start p.passes q.seen
  pub shows : Shows step r (found p.start (world_after p.start (p.seen ++ rest)) step)
  pub know : knows q ≡ learn step r (stamp_shown (world_after p.start (p.seen ++ rest)) step) (knows p)
  pub same : (q.table ≡ p.table) × (q.start ≡ p.start) × (q.passes ≡ p.passes) × (q.who ≡ p.who)
  pub steps : steps_of q ≡ steps_of p + 1
