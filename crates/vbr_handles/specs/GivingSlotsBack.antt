-- What a handle answers that gives the slots of its pass back, and one that is closed.
use Rattle.std.specs.Prelude.{◌≡◌, ℕ, ℤ, List, Option}
use Rattle.vbr_slots.specs.views.Views.{PassView, TableView}
use Rattle.vbr_at_table.specs.pools.GivingSlotsBack.{GivesSlotsBack}
use Rattle.vbr_set.specs.reports.Closing.{Closes, MapCloses}
use Rattle.vbr_set.specs.calls.Members.{MemberView as Member}
use Rattle.vbr_handles.specs.EmptyOrFull.{EmptyOrFull}
use Rattle.vbr_handles.specs.HeldSlots.{TellsLetGo}
use Rattle.vbr_handles.specs.Listings.{Listing, as_entries, as_keys}
use Rattle.vbr_handles.specs.Reports.{TellsCloseBy}
use Rattle.vbr_handles.specs.declared.entry.Entry.{Entry}
use Rattle.vbr_handles.specs.declared.report_numbers.ReportNumbers.{ReportNumbers}

-- so many slots were given back: none by an empty handle, which stays so, and by a full one those of its pass
abbrev pub TellsGivenBack : Option Member → Option Member → ℕ → Type 0
TellsGivenBack m n count = EmptyOrFull (count ≡ 0) (λ m n. (n.set ≡ m.set) × (n.aside ≡ m.aside) × GivesSlotsBack m.pass n.pass count) m n

module _ {R I : Type 0} (L : Listing R I) (tells : TableView → List PassView → R → Type 0) where
  -- the member let go of the slot that it held, its pass gave its slots back, and then the handle was closed
  pub record ClosesWithoutSlots (before after : Option Member) (items written : List I) (was told : ReportNumbers) (code : ℤ) : Type 0 where
    pub first : Option Member
    pub held : ℤ
    pub lets_go : TellsLetGo before first held
    pub between : Option Member
    pub count : ℕ
    pub gives : TellsGivenBack first between count
    pub closes : TellsCloseBy L tells between after items written was told code

-- the same for a set, whose report lists keys
abbrev pub ClosesHandle : Option Member → Option Member → List ℕ → List ℕ → ReportNumbers → ReportNumbers → ℤ → Type 0
ClosesHandle = ClosesWithoutSlots as_keys Closes

-- and for a map, whose report lists entries
abbrev pub ClosesMapHandle : Option Member → Option Member → List Entry → List Entry → ReportNumbers → ReportNumbers → ℤ → Type 0
ClosesMapHandle = ClosesWithoutSlots as_entries MapCloses
