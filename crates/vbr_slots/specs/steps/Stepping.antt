-- How a step is given to the table.
use Rattle.std.specs.Prelude.{◌≡◌}
use Rattle.vbr_machine.specs.declared.event.Event.{Event}
use Rattle.vbr_machine.specs.declared.event.Step.{Step}
use Rattle.vbr_slots.specs.runs.TableStart.{TableStart}
use Rattle.vbr_slots.specs.views.Views.{TableView, Trace, event_of}

-- what a table was opened with
abbrev pub opening_of : TableView → TableStart
opening_of t = record { start = t.start; passes = t.passes }

-- the event is this step of the pass, and the opening that of the table
pub record NamesStep (event : Event) (opening : TableStart) (p : Trace) (t : TableView) (step : Step) : Type 0 where
  pub event_is : event ≡ event_of p.who step
  pub opening_is : opening ≡ opening_of t
