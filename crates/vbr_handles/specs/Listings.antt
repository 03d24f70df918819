-- What of nodes crosses to C: the keys of a set, or the entries of a map, when a table opens with them and when a report lists them.
use Rattle.std.specs.Prelude.{ℕ, Bool, true, false, List, [], map}
use Rattle.vbr_machine.specs.Maps.{keys_listed, values_listed}
use Rattle.vbr_set.specs.declared.report.MapReport.{MapReport}
use Rattle.vbr_set.specs.declared.report.Report.{Report}
use Rattle.vbr_set.specs.declared.report_with_slots.ReportWithSlots.{ReportWithSlots}
use Rattle.vbr_handles.specs.declared.entry.Entry.{Entry}
use Rattle.vbr_handles.specs.declared.report_numbers.ReportNumbers.{ReportNumbers}

-- how nodes are listed: whether they have values; the keys of what is listed, and the values; the numbers of a report; and what it lists
pub record Listing (R I : Type 0) : Type 0 where
  pub values : Bool
  pub keys : List I → List ℕ
  pub payloads : List I → List ℕ
  pub numbers : R → ReportNumbers
  pub items : R → List I

-- the same for a report with slots
abbrev pub with_slots : {R I : Type 0} → Listing R I → Listing (ReportWithSlots R) I
with_slots listing = record {
  values = listing.values;
  keys = listing.keys;
  payloads = listing.payloads;
  numbers = λ told. listing.numbers told.report;
  items = λ told. listing.items told.report;
}

-- the entry of a pair, and the pair of an entry
abbrev pub as_entry : ℕ × ℕ → Entry
as_entry pair = record { key = pair.0; value = pair.1 }

abbrev pub as_pair : Entry → ℕ × ℕ
as_pair entry = (entry.key, entry.value)

-- the numbers of the report of a set, and of a map
abbrev pub report_numbers : Report → ReportNumbers
report_numbers report = record { epoch = report.epoch; live = report.live; marked = report.marked; free = report.free }

abbrev pub map_report_numbers : MapReport → ReportNumbers
map_report_numbers report = record { epoch = report.epoch; live = report.live; marked = report.marked; free = report.free }

-- a set lists keys
abbrev pub as_keys : Listing Report ℕ
as_keys = record {
  values = false;
  keys = λ keys. keys;
  payloads = λ keys. [];
  numbers = report_numbers;
  items = λ report. report.keys.items;
}

-- the keys of entries
abbrev pub entry_keys : List Entry → List ℕ
entry_keys entries = keys_listed (map as_pair entries)

-- a map lists entries
abbrev pub as_entries : Listing MapReport Entry
as_entries = record {
  values = true;
  keys = entry_keys;
  payloads = λ entries. values_listed (map as_pair entries);
  numbers = map_report_numbers;
  items = λ report. map as_entry report.entries.items;
}
