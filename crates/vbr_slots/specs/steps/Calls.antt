-- What steps in a row add: to what the pass has seen, to its calls, and to its steps.
use Rattle.std.specs.Prelude.{◌≡◌, ℕ, ◌+◌, List, [], ◌∷◌, ◌++◌}
use Rattle.vbr_machine.specs.Loads.{OnlyLoadsOf}
use Rattle.vbr_machine.specs.Runs.{IsRun, Begins}
use Rattle.vbr_machine.specs.Calls.{own_calls}
use Rattle.vbr_machine.specs.Chronicles.{Entry, Confirms}
use Rattle.vbr_machine.specs.Accounts.{just, own_entries}
use Rattle.vbr_machine.specs.declared.event.Event.{Event}
use Rattle.vbr_machine.specs.declared.history.Call.{Call}
use Rattle.vbr_slots.specs.views.Views.{Trace, steps_of}

-- the same pass of the same table
pub record IsSame (p q : Trace) : Type 0 where
  pub table : q.table ≡ p.table
  pub start : q.start ≡ p.start
  pub passes : q.passes ≡ p.passes
  pub who : q.who ≡ p.who

-- the calls that the pass has made, in their order
abbrev pub made_by : Trace → List Call
made_by p = own_calls p.start p.seen p.who

-- the pass has seen more, and made no call
pub record Quiet (p q : Trace) : Type 0 where
  pub same : IsSame p q
  pub seen : Begins p.seen q.seen
  pub is_run : IsRun p.start p.passes p.seen → IsRun q.start q.passes q.seen
  pub calls : made_by q ≡ made_by p

-- the pass has seen more, and made just this call
pub record Made (call : Call) (p q : Trace) : Type 0 where
  pub same : IsSame p q
  pub seen : Begins p.seen q.seen
  pub is_run : IsRun q.start q.passes q.seen
  pub calls : made_by q ≡ made_by p ++ call ∷ []

-- the events of the pass in the chronicle of what it has seen
abbrev pub entries_of : Trace → List Entry
entries_of p = own_entries p.start p.seen p.who

-- the pass added no event to the chronicle
pub record AddsNone (p q : Trace) : Type 0 where
  pub entries : entries_of q ≡ entries_of p

-- the pass added one event to the chronicle, the answer of this call
pub record AddsAnswer (call : Call) (p q : Trace) : Type 0 where
  pub entries : entries_of q ≡ entries_of p ++ just p.who (Confirms call)

-- since then the pass has made loads alone: of its own events in what it has seen none is an exchange, won or lost, and none a store
pub record OnlyLoads (p q : Trace) : Type 0 where
  pub who : q.who ≡ p.who
  pub since : List Event
  pub seen : q.seen ≡ p.seen ++ since
  pub loads : OnlyLoadsOf p.who since

-- a moment of what the pass did: a run that begins with what it had seen before, and begins what it has seen after
pub record Moment (p q : Trace) (moment : List Event) : Type 0 where
  pub from : Begins p.seen moment
  pub to : Begins moment q.seen
  pub is_run : IsRun q.start q.passes q.seen

-- so many steps were made: the pass has so many more events of its own in what it has seen
pub record Took (p q : Trace) (steps : ℕ) : Type 0 where
  pub made : steps_of q ≡ steps_of p + steps
