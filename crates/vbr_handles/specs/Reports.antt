-- What a close of a handle, or a report by all, answers as a number, and writes of the report.
use Rattle.std.specs.Prelude.{◌≡◌, ℤ, ℕ, List, ◌++◌, length, drop, Option, None, Some, Result, Ok, Err}
use Rattle.vbr_slots.specs.views.Views.{PassView, TableView}
use Rattle.vbr_set.specs.reports.Closing.{Closes, MapCloses}
use Rattle.vbr_set.specs.reports.EntrySlots.{ClosesWithSlots}
use Rattle.vbr_set.specs.reports.Kinds.{KindOf, as_map, as_set}
use Rattle.vbr_set.specs.calls.Members.{MemberView as Member}
use Rattle.vbr_set.specs.declared.report_with_slots.ReportWithSlots.{ReportWithSlots}
use Rattle.vbr_handles.specs.AllHandles.{ClosesAll, ReportsAllOf}
use Rattle.vbr_handles.specs.Closing.{ClosesAs}
use Rattle.vbr_handles.specs.Listings.{Listing, as_entries, as_keys, with_slots}
use Rattle.vbr_handles.specs.declared.handle.Handle.{Handle}
use Rattle.vbr_handles.specs.declared.handle.MapHandle.{MapHandle}
use Rattle.vbr_handles.specs.declared.closing.CloseRefusal.{CloseRefusal}
use Rattle.vbr_handles.specs.declared.closing.CloseRefusal.TheVariants.{Empty, Lost, Memory, Room}
use Rattle.vbr_handles.specs.declared.closing_all.CloseAllRefusal.{CloseAllRefusal}
use Rattle.vbr_handles.specs.declared.closing_all.CloseAllRefusal.TheVariants as closing_all
use Rattle.vbr_handles.specs.Codes.{close_all_code, close_code}
use Rattle.vbr_handles.specs.declared.entry.Entry.{Entry}
use Rattle.vbr_handles.specs.declared.report_numbers.ReportNumbers.{ReportNumbers}

module _ {R I : Type 0} (L : Listing R I) where
  -- the numbers are the numbers of the report, and all that it lists stands in front
  pub record IsReported (report : R) (before after : List I) (told : ReportNumbers) : Type 0 where
    pub numbers : told ≡ L.numbers report
    pub items : after ≡ L.items report ++ drop (length (L.items report)) before

  -- a report is written; if it has no room only its numbers are, otherwise nothing is written
  abbrev pub WritesReport : Result (Option R) (CloseRefusal R) → List I → List I → ReportNumbers → ReportNumbers → Type 0
  WritesReport (Ok (Some report)) before after old new = IsReported report before after new
  WritesReport (Ok None) before after old new = (after ≡ before) × (new ≡ old)
  WritesReport (Err Empty) before after old new = (after ≡ before) × (new ≡ old)
  WritesReport (Err Lost) before after old new = (after ≡ before) × (new ≡ old)
  WritesReport (Err Memory) before after old new = (after ≡ before) × (new ≡ old)
  WritesReport (Err (Room report)) before after old new = (after ≡ before) × (new ≡ L.numbers report)

  -- the same if all handles give a report, or are closed, at once; a report is written; if it has no room only its numbers are, otherwise nothing is written
  abbrev pub WritesAll : Result R (CloseAllRefusal R) → List I → List I → ReportNumbers → ReportNumbers → Type 0
  WritesAll (Ok report) before after old new = IsReported report before after new
  WritesAll (Err closing_all.Empty) before after old new = (after ≡ before) × (new ≡ old)
  WritesAll (Err closing_all.Mixed) before after old new = (after ≡ before) × (new ≡ old)
  WritesAll (Err closing_all.Missing) before after old new = (after ≡ before) × (new ≡ old)
  WritesAll (Err closing_all.Memory) before after old new = (after ≡ before) × (new ≡ old)
  WritesAll (Err (closing_all.Room report)) before after old new = (after ≡ before) × (new ≡ L.numbers report)

  module _ (tells : TableView → List PassView → R → Type 0) where
    -- the code is the code of an answer to the close, and a report is written
    pub record TellsCloseBy (m n : Option Member) (before after : List I) (old new : ReportNumbers) (code : ℤ) : Type 0 where
      pub answer : Result (Option R) (CloseRefusal R)
      pub is : code ≡ close_code answer
      pub closes : ClosesAs tells L m n (length before) answer
      pub writes : WritesReport answer before after old new

    -- the code is the code of an answer to the close, and a report is written
    pub record TellsCloseAllBy {H : Type 0} (member : H → Option Member) (handles left : List H) (before after : List I) (old new : ReportNumbers) (code : ℤ) : Type 0 where
      pub answer : Result R (CloseAllRefusal R)
      pub is : code ≡ close_all_code answer
      pub closes : ClosesAll member tells L handles left (length before) answer
      pub writes : WritesAll answer before after old new

    -- the same for a report that leaves the handles as they were
    pub record TellsReportBy {H : Type 0} (member : H → Option Member) (handles left : List H) (before after : List I) (old new : ReportNumbers) (code : ℤ) : Type 0 where
      pub answer : Result R (CloseAllRefusal R)
      pub is : code ≡ close_all_code answer
      pub reports : ReportsAllOf member tells L handles left (length before) answer
      pub writes : WritesAll answer before after old new

-- the slots of a report are written in front; without one, or if it has no room, nothing is written
abbrev pub WritesSlots : {R : Type 0} → Result (ReportWithSlots R) (CloseAllRefusal (ReportWithSlots R)) → List ℕ → List ℕ → Type 0
WritesSlots (Ok told) before after = after ≡ told.slots.items ++ drop (length told.slots.items) before
WritesSlots (Err refusal) before after = after ≡ before

-- a report is given as one without slots is, and the slot of each key or entry is written at its place
pub record TellsReportSlotsBy {Item R I H : Type 0} (L : Listing R I) (kind : KindOf Item R) (member : H → Option Member) (handles left : List H) (before after : List I) (at at' : List ℕ) (old new : ReportNumbers) (code : ℤ) : Type 0 where
  pub told : TellsReportBy (with_slots L) (ClosesWithSlots kind) member handles left before after old new code
  pub slots : WritesSlots told.answer at at'

-- the same for a set, whose report lists keys
abbrev pub TellsCloseAll : List Handle → List Handle → List ℕ → List ℕ → ReportNumbers → ReportNumbers → ℤ → Type 0
TellsCloseAll = TellsCloseAllBy as_keys Closes (λ (handle : Handle). handle.owned.member)

abbrev pub TellsReport : List Handle → List Handle → List ℕ → List ℕ → ReportNumbers → ReportNumbers → ℤ → Type 0
TellsReport = TellsReportBy as_keys Closes (λ (handle : Handle). handle.owned.member)

abbrev pub TellsReportSlots : List Handle → List Handle → List ℕ → List ℕ → List ℕ → List ℕ → ReportNumbers → ReportNumbers → ℤ → Type 0
TellsReportSlots = TellsReportSlotsBy as_keys as_set (λ (handle : Handle). handle.owned.member)

-- and for a map, whose report lists entries
abbrev pub TellsMapCloseAll : List MapHandle → List MapHandle → List Entry → List Entry → ReportNumbers → ReportNumbers → ℤ → Type 0
TellsMapCloseAll = TellsCloseAllBy as_entries MapCloses (λ (handle : MapHandle). handle.owned.member)

abbrev pub TellsMapReport : List MapHandle → List MapHandle → List Entry → List Entry → ReportNumbers → ReportNumbers → ℤ → Type 0
TellsMapReport = TellsReportBy as_entries MapCloses (λ (handle : MapHandle). handle.owned.member)

abbrev pub TellsMapReportSlots : List MapHandle → List MapHandle → List Entry → List Entry → List ℕ → List ℕ → ReportNumbers → ReportNumbers → ℤ → Type 0
TellsMapReportSlots = TellsReportSlotsBy as_entries as_map (λ (handle : MapHandle). handle.owned.member)
