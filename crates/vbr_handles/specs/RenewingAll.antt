-- How all handles of a set or of a map move to a fresh one.
use Rattle.std.specs.Prelude.{◌⊎◌, List, Option, Result, Ok, Err}
use Rattle.vbr_words.specs.Dimensions.{IsShape}
use Rattle.vbr_set.specs.members.AllMembers.{ReportsAllBy}
use Rattle.vbr_set.specs.reports.Closing.{ClosesBy}
use Rattle.vbr_set.specs.reports.Kinds.{KindOf}
use Rattle.vbr_set.specs.calls.Members.{MemberView as Member}
use Rattle.vbr_set.specs.renewals.RenewingAll.{AreNotAll, HasNoRoom, HasRoom}
use Rattle.vbr_handles.specs.AllHandles.{AreFull, StaySo, members_by}
use Rattle.vbr_handles.specs.EachOnce.{HasTwice}
use Rattle.vbr_handles.specs.Listings.{Listing}
use Rattle.vbr_handles.specs.Opening.{AreOpened, listed_start, spread_shape}
use Rattle.vbr_handles.specs.declared.opening.ShapeNumbers.{ShapeNumbers}
use Rattle.vbr_handles.specs.declared.renewing_all.RenewAllRefusal.{RenewAllRefusal}
use Rattle.vbr_handles.specs.declared.renewing_all.RenewAllRefusal.TheVariants.{Shape, Empty, Missing, Mixed, Room, Memory}

module _ {Item R I : Type 0} (kind : KindOf Item R) (L : Listing R I) {H : Type 0} (member : H → Option Member) where
  -- a fresh set of these numbers opens, for the handles, with what a report of all members lists
  pub record RenewsTo (members : List Member) (numbers : ShapeNumbers) (after : List H) : Type 0 where
    pub report : R
    pub reports : ReportsAllBy (ClosesBy kind) members report
    pub opened : AreOpened member (listed_start L numbers (L.items report)) after

  -- the numbers are the numbers of a shape
  abbrev pub AreOfShape : ShapeNumbers → Type 0
  AreOfShape numbers = IsShape (spread_shape numbers L.values)

  -- they are; and each handle has a member, as many as were opened with their set
  abbrev pub AreJustAll : List H → ShapeNumbers → Type 0
  AreJustAll handles numbers = AreOfShape numbers × AreFull member handles × ¬ (AreNotAll (members_by member handles))

  -- so they are, and no two have the same pass
  abbrev pub AreJustAllOnce : List H → ShapeNumbers → Type 0
  AreJustAllOnce handles numbers = AreJustAll handles numbers × ¬ (HasTwice (members_by member handles))

  -- why handles are not renewed, by the first test that failed
  abbrev pub IsWhyHandlesUnrenewed : List H → ShapeNumbers → RenewAllRefusal → Type 0
  IsWhyHandlesUnrenewed handles numbers Shape = ¬ (AreOfShape numbers)
  IsWhyHandlesUnrenewed handles numbers Empty = AreOfShape numbers × ¬ (AreFull member handles)
  IsWhyHandlesUnrenewed handles numbers Missing = AreOfShape numbers × AreFull member handles × (AreNotAll (members_by member handles) ⊎ HasTwice (members_by member handles))
  IsWhyHandlesUnrenewed handles numbers Mixed = AreJustAll handles numbers
  IsWhyHandlesUnrenewed handles numbers Room = AreJustAllOnce handles numbers × HasNoRoom kind (members_by member handles) numbers.slots
  IsWhyHandlesUnrenewed handles numbers Memory = AreJustAllOnce handles numbers × HasRoom kind (members_by member handles) numbers.slots

  -- the handles are all of a set, and move to the fresh one; otherwise they are as they were
  abbrev pub RenewsAll : List H → List H → ShapeNumbers → Result (Unit {0}) RenewAllRefusal → Type 0
  RenewsAll before after numbers (Ok done) = AreJustAllOnce before numbers × RenewsTo (members_by member before) numbers after
  RenewsAll before after numbers (Err refusal) = StaySo member before after × IsWhyHandlesUnrenewed before numbers refusal
