-- How a set or a map ends, and what the report says of that.
use Rattle.std.specs.Prelude.{◌≡◌, List, [], ◌∷◌}
use Rattle.vbr_machine.specs.Start.{Start}
use Rattle.vbr_machine.specs.Runs.{IsRun}
use Rattle.vbr_machine.specs.Calls.{own_calls}
use Rattle.vbr_machine.specs.Safety.{IsSafe}
use Rattle.vbr_machine.specs.declared.event.Event.{Event}
use Rattle.vbr_slots.specs.steps.Calls.{made_by}
use Rattle.vbr_slots.specs.runs.Closing.{EachSeen}
use Rattle.vbr_slots.specs.views.Views.{PassView, TableView}
use Rattle.vbr_set.specs.reports.Contents.{TellsRun}
use Rattle.vbr_set.specs.histories.Histories.{calls_of}
use Rattle.vbr_set.specs.reports.Kinds.{KindOf, as_map, as_set}
use Rattle.vbr_set.specs.declared.report.MapReport.{MapReport}
use Rattle.vbr_set.specs.declared.report.Report.{Report}

-- the calls of each pass in a run are exactly those that it has made
abbrev pub EachMade : Start → List Event → List PassView → Type 0
EachMade start run [] = Unit {0}
EachMade start run (p ∷ ps) = (own_calls start run p.trace.who ≡ made_by p.trace) × EachMade start run ps

module _ {Item R : Type 0} (kind : KindOf Item R) where
  -- the report says what the calls of a run leave of what was opened with, the epoch, and the counts
  abbrev pub ReportsBy : Start → List Event → R → Type 0
  ReportsBy start run report = TellsRun (kind.lists start (calls_of start run)) start run (kind.contents report)

  -- the calls of a run are a legal history of what was opened, and the report describes it
  pub record ReportsLegally (start : Start) (run : List Event) (report : R) : Type 0 where
    pub legal : kind.legal start (calls_of start run)
    pub reports : ReportsBy start run report

  -- the report describes the end of a run that begins with what each pass has seen, and has no other event of it, so of each pass exactly the calls that it has made; the calls are a legal history of what was opened, perhaps none, and the run is safe
  pub record ClosesBy (t : TableView) (passes : List PassView) (report : R) : Type 0 where
    pub run : List Event
    pub is_run : IsRun t.start t.passes run
    pub begins : EachSeen run passes
    pub made : EachMade t.start run passes
    pub legal : kind.legal t.start (calls_of t.start run)
    pub safe : IsSafe t.start run
    pub reports : ReportsBy t.start run report

-- the same for a set, whose report has the keys that the calls leave, ascending
abbrev pub Closes : TableView → List PassView → Report → Type 0
Closes = ClosesBy as_set

-- and for a map, whose report has the entries, ascending by key, each value that is given being the one stored
abbrev pub MapCloses : TableView → List PassView → MapReport → Type 0
MapCloses = ClosesBy as_map
