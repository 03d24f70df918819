-- The totals of a run on a set or on a map: the counts, what is there in the end, and the epoch.
use Rattle.std.specs.Prelude.{ℕ, List}
use Rattle.vbr_script.specs.declared.script.Kind.{Kind}
use Rattle.vbr_script.specs.declared.script.Kind.TheVariants.{Set, Map}
use Rattle.vbr_transcript.specs.Contents.{Item}
use Rattle.vbr_transcript.specs.declared.totals.Totals.{Totals}
use Rattle.vbr_transcript.specs.declared.totals.MapTotals.{MapTotals}
use Rattle.vbr_transcript.specs.declared.totals.Tally.{Tally}

-- the totals of a kind
abbrev pub TotalsOf : Kind → Type 0
TotalsOf Set = Totals
TotalsOf Map = MapTotals

-- the keys or the entries in totals
abbrev pub listed_in : (kind : Kind) → TotalsOf kind → List (Item kind)
listed_in Set totals = totals.keys.items
listed_in Map totals = totals.entries.items

-- the epoch in totals
abbrev pub epoch_in : (kind : Kind) → TotalsOf kind → ℕ
epoch_in Set totals = totals.epoch
epoch_in Map totals = totals.epoch

-- the counts in totals
abbrev pub tally_in : (kind : Kind) → TotalsOf kind → Tally
tally_in Set totals = record { inserted = totals.inserted; removed = totals.removed; found = totals.found; refused = totals.refused }
tally_in Map totals = record { inserted = totals.inserted; removed = totals.removed; found = totals.found; refused = totals.refused }
