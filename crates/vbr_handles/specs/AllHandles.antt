-- What a set reports by all its handles at once, how it ends by them, and what that leaves in them.
use Rattle.std.specs.Prelude.{◌≡◌, ◌<◌, ◌≤◌, ◌⊎◌, ℕ, All, List, [], ◌∷◌, length, map, Option, None, Some, IsSome, Result, Ok, Err}
use Rattle.vbr_slots.specs.views.Views.{PassView, TableView}
use Rattle.vbr_set.specs.members.AllMembers.{AreTooFew, ReportsAllBy}
use Rattle.vbr_set.specs.calls.Members.{MemberView as Member}
use Rattle.vbr_handles.specs.EachOnce.{HasTwice}
use Rattle.vbr_handles.specs.Listings.{Listing}
use Rattle.vbr_handles.specs.Opening.{AreEmpty}
use Rattle.vbr_handles.specs.declared.handle.Handle.{Handle}
use Rattle.vbr_handles.specs.declared.handle.MapHandle.{MapHandle}
use Rattle.vbr_handles.specs.declared.closing_all.CloseAllRefusal.{CloseAllRefusal}
use Rattle.vbr_handles.specs.declared.closing_all.CloseAllRefusal.TheVariants.{Empty, Missing, Mixed, Memory, Room}

-- the members of the handles that have one, in their order
abbrev pub joined : Option Member → List Member → List Member
joined None ms = ms
joined (Some m) ms = m ∷ ms

abbrev pub members_by : {H : Type 0} → (H → Option Member) → List H → List Member
members_by member [] = []
members_by member (h ∷ hs) = joined (member h) (members_by member hs)

-- the same for the handles of a set
abbrev pub members_in : List Handle → List Member
members_in = members_by (λ (handle : Handle). handle.owned.member)

-- and for the handles of a map
abbrev pub map_members_in : List MapHandle → List Member
map_members_in = members_by (λ (handle : MapHandle). handle.owned.member)

-- the handles have the budgets that they had
abbrev pub KeepSteps : List Handle → List Handle → Type 0
KeepSteps before after = map (λ (handle : Handle). handle.steps) after ≡ map (λ (handle : Handle). handle.steps) before

abbrev pub KeepMapSteps : List MapHandle → List MapHandle → Type 0
KeepMapSteps before after = map (λ (handle : MapHandle). handle.steps) after ≡ map (λ (handle : MapHandle). handle.steps) before

-- the handles are of the openings that they were of
abbrev pub KeepOpenings : List Handle → List Handle → Type 0
KeepOpenings before after = map (λ (handle : Handle). handle.opening) after ≡ map (λ (handle : Handle). handle.opening) before

abbrev pub KeepMapOpenings : List MapHandle → List MapHandle → Type 0
KeepMapOpenings before after = map (λ (handle : MapHandle). handle.opening) after ≡ map (λ (handle : MapHandle). handle.opening) before

module _ {H : Type 0} (member : H → Option Member) where
  -- each handle has a member
  abbrev pub AreFull : List H → Type 0
  AreFull handles = All (λ h. IsSome (member h)) handles

  -- each handle has a member, and they are no fewer than were opened with their set
  abbrev pub AreEnough : List H → Type 0
  AreEnough handles = AreFull handles × ¬ (AreTooFew (members_by member handles))

  -- so they are, and no two have the same pass
  abbrev pub AreEnoughOnce : List H → Type 0
  AreEnoughOnce handles = AreEnough handles × ¬ (HasTwice (members_by member handles))

  -- each handle has the member that it had
  abbrev pub StaySo : List H → List H → Type 0
  StaySo before after = map member after ≡ map member before

  module _ {R I : Type 0} (tells : TableView → List PassView → R → Type 0) (L : Listing R I) where
    -- the set of these members ends with this report, whose keys have room, and the handles are empty
    pub record EndsAll (members : List Member) (after : List H) (room : ℕ) (report : R) : Type 0 where
      pub reports : ReportsAllBy tells members report
      pub fits : length (L.items report) ≤ room
      pub empty : AreEmpty member after

    -- why a set reports nothing by these handles
    abbrev pub IsWhyNot : List H → ℕ → CloseAllRefusal R → Type 0
    IsWhyNot handles room Empty = ¬ (AreFull handles)
    IsWhyNot handles room Missing = AreFull handles × (AreTooFew (members_by member handles) ⊎ HasTwice (members_by member handles))
    IsWhyNot handles room Mixed = AreEnough handles
    IsWhyNot handles room Memory = AreEnoughOnce handles
    IsWhyNot handles room (Room report) = AreEnoughOnce handles × ReportsAllBy tells (members_by member handles) report × (room < length (L.items report))

    -- the handles are all of a set, which gives this report, whose keys have room; and in each case they are as they were
    abbrev pub ReportsAllOf : List H → List H → ℕ → Result R (CloseAllRefusal R) → Type 0
    ReportsAllOf before after room (Ok report) = StaySo before after × AreEnoughOnce before × ReportsAllBy tells (members_by member before) report × (length (L.items report) ≤ room)
    ReportsAllOf before after room (Err refusal) = StaySo before after × IsWhyNot before room refusal

    -- the handles are all of a set, and it ends with this report; otherwise they are as they were
    abbrev pub ClosesAll : List H → List H → ℕ → Result R (CloseAllRefusal R) → Type 0
    ClosesAll before after room (Ok report) = AreEnoughOnce before × EndsAll (members_by member before) after room report
    ClosesAll before after room (Err refusal) = StaySo before after × IsWhyNot before room refusal
