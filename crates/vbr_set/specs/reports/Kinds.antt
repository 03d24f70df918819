-- What the kind of nodes decides of a set, whose nodes are keys, and of a map, whose nodes are entries: all else is the same for both.
use Rattle.std.specs.Prelude.{◌≡◌, ℕ, List}
use Rattle.std.specs.List.Sorted.{IsStrictlyIncreasing}
use Rattle.vbr_words.specs.Dimensions.{Dimensions}
use Rattle.vbr_machine.specs.History.{IsLegal, set_after}
use Rattle.vbr_machine.specs.Keys.{AreKeysOf}
use Rattle.vbr_machine.specs.Maps.{Entries, IsMapLegal, entries_in, keys_listed, map_after, map_start, opening_entries, values_listed}
use Rattle.vbr_machine.specs.Opened.{opening_keys}
use Rattle.vbr_machine.specs.Start.{Start, set_start}
use Rattle.vbr_machine.specs.declared.history.Call.{Call}
use Rattle.vbr_set.specs.declared.contents.Contents.{Contents}
use Rattle.vbr_set.specs.declared.report.MapReport.{MapReport}
use Rattle.vbr_set.specs.declared.report.Report.{Report}

-- the keys of items; what it starts with, of a shape and with items; the same start with other items; which histories are legal from a start; which items the calls of a history leave; and what a report says
pub record KindOf (Item R : Type 0) : Type 1 where
  pub keys : List Item → List ℕ
  pub start : Dimensions → List Item → Start
  pub with_items : Start → List Item → Start
  pub legal : Start → List Call → Type 0
  pub lists : Start → List Call → List Item → Type 0
  pub contents : R → Contents Item

-- a set lists the keys that the calls of a history leave in a set that opened with the keys of its start
abbrev pub as_set : KindOf ℕ Report
as_set = record {
  keys = λ keys. keys;
  start = set_start;
  with_items = λ start keys. record start { keys = keys };
  legal = λ start calls. IsLegal (opening_keys start) calls;
  lists = λ start calls keys. AreKeysOf keys (set_after (opening_keys start) calls);
  contents = λ report. record { listed = report.keys; epoch = report.epoch; live = report.live; marked = report.marked; free = report.free };
}

-- the list has exactly the entries of the map, its keys ascending
pub record AreEntriesOf (listed : List (ℕ × ℕ)) (entries : Entries) : Type 0 where
  pub ascending : IsStrictlyIncreasing (keys_listed listed)
  pub same : (key : ℕ) → entries_in listed key ≡ entries key

-- a map lists the entries that they leave in a map that opened with the entries of its start, and in a legal history of one each value that is given is the one stored
abbrev pub as_map : KindOf (ℕ × ℕ) MapReport
as_map = record {
  keys = keys_listed;
  start = map_start;
  with_items = λ start entries. record start { keys = keys_listed entries; payloads = values_listed entries };
  legal = λ start calls. IsMapLegal (opening_entries start) calls;
  lists = λ start calls entries. AreEntriesOf entries (map_after (opening_entries start) calls);
  contents = λ report. record { listed = report.entries; epoch = report.epoch; live = report.live; marked = report.marked; free = report.free };
}
