-- What contracts see of a runner, and its invariant.
use Rattle.std.specs.Prelude.{◌≡◌, ◌<◌, List, [], ◌∷◌}
use Rattle.vbr_machine.specs.Start.{Start, IsStart}
use Rattle.vbr_machine.specs.Runs.{know_after, IsRun}
use Rattle.vbr_machine.specs.declared.event.Event.{Event}
use Rattle.vbr_slots.specs.declared.runner.Runner.TheInside.{Inside}
use Rattle.vbr_slots.specs.runs.Rule.{witness, opened_of, with_opened, first_opened, first_seen}
use Rattle.vbr_slots.specs.views.Views.{Trace}

-- what its pass has seen: the record in its seat
abbrev pub seen_of : Inside → List Event
seen_of p = first_seen p.seat.me.0

-- what its table started with: its shape, and the keys and values in the record of its seat
abbrev pub start_of : Inside → Start
start_of p = with_opened p.opening.shape (first_opened p.seat.me.0)

-- what contracts see
abbrev pub trace_of_runner : Inside → Trace
trace_of_runner p = record { table = p.seat.table_id; start = start_of p; passes = p.opening.passes; who = p.who; seen = seen_of p }

-- its seat has this pass alone, and no slot of the table; what it has seen is a run; and the epoch that it keeps is the one that it knows
pub record IsSoundRunner (p : Inside) : Type 0 where
  pub alone : p.seat.me ≡ (witness (opened_of (start_of p)) p.who (seen_of p) ∷ [], [])
  pub low : p.who < p.opening.passes
  pub start : IsStart (start_of p)
  pub is_run : IsRun (start_of p) p.opening.passes (seen_of p)
  pub epoch : p.epoch ≡ (know_after (start_of p) (seen_of p) p.who).epoch
