-- What a report says of a run of a table: the items of the linked nodes after it, and the counts of a report.
use Rattle.std.specs.Prelude.{◌≡◌, ℕ, ◌+◌, List, length}
use Rattle.vbr_machine.specs.Start.{Start}
use Rattle.vbr_machine.specs.Accounts.{incarnations_after}
use Rattle.vbr_machine.specs.Images.{value_shown}
use Rattle.vbr_machine.specs.Incarnations.{Incarnations}
use Rattle.vbr_machine.specs.Nodes.{linked_after, marked_after, key_in_slot}
use Rattle.vbr_machine.specs.Runs.{world_after}
use Rattle.vbr_machine.specs.declared.event.Event.{Event}
use Rattle.vbr_slots.specs.runs.Closing.{Ends}
use Rattle.vbr_slots.specs.views.Views.{PassView, TableView}
use Rattle.vbr_set.specs.reports.Walking.{AreAfter, linked_of}
use Rattle.vbr_set.specs.declared.contents.Contents.{Contents}

-- a report of a run has: its items; the epoch; the number of linked nodes, one for each item; the number that are marked and still in a list; and the number of slots that have neither
pub record TellsRun {T : Type 0} (Lists : List T → Type 0) (start : Start) (run : List Event) (told : Contents T) : Type 0 where
  pub listed : Lists told.listed.items
  pub epoch : told.epoch ≡ (world_after start run).epoch
  pub live : told.live ≡ linked_after start run
  pub one_each : length told.listed.items ≡ told.live
  pub marked : told.marked ≡ marked_after start run
  pub free : told.live + told.marked + told.free ≡ start.shape.slots

-- ---- by the words of a closed table; only contracts of private functions cite this

-- the key of the last incarnation of a slot, with its value
abbrev pub entry_in_slot : Incarnations → ℕ → ℕ × ℕ
entry_in_slot a s = (key_in_slot a s, value_shown a (a.last s))

module _ {T : Type 0} (shown : Incarnations → ℕ → T) where
  -- what is shown of the linked nodes after a run, slot by slot
  abbrev pub ShowsLinked : Start → List Event → List T → Type 0
  ShowsLinked start run items = items ≡ linked_of (shown (incarnations_after start run)) (incarnations_after start run) start.shape.slots

  -- so a run is reported
  abbrev pub Holds : Start → List Event → Contents T → Type 0
  Holds start run told = TellsRun (ShowsLinked start run) start run told

  -- this is reported of the run that a table ends with, of which the passes have seen beginnings
  pub record TellsEnd (t : TableView) (passes : List PassView) (told : Contents T) : Type 0 where
    pub words : List ℕ
    pub ends : Ends t passes words
    pub after : AreAfter t.start words ends.run
    pub holds : Holds t.start ends.run told
