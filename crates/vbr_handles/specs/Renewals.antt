-- What a renewal of all handles answers as a number.
use Rattle.std.specs.Prelude.{◌≡◌, ℕ, ℤ, List, Option, Result}
use Rattle.vbr_set.specs.reports.Kinds.{KindOf, as_map, as_set}
use Rattle.vbr_set.specs.calls.Members.{MemberView as Member}
use Rattle.vbr_handles.specs.Codes.{renew_all_code}
use Rattle.vbr_handles.specs.Listings.{Listing, as_entries, as_keys}
use Rattle.vbr_handles.specs.Openings.{BeginAnew}
use Rattle.vbr_handles.specs.RenewingAll.{RenewsAll}
use Rattle.vbr_handles.specs.declared.handle.Handle.{Handle}
use Rattle.vbr_handles.specs.declared.handle.MapHandle.{MapHandle}
use Rattle.vbr_handles.specs.declared.opening.ShapeNumbers.{ShapeNumbers}
use Rattle.vbr_handles.specs.declared.renewing_all.RenewAllRefusal.{RenewAllRefusal}

-- the code is the code of an answer to the renewal; if it is done, the handles have the number of a fresh opening
pub record TellsRenewalBy {Item R I H : Type 0} (kind : KindOf Item R) (L : Listing R I) (member : H → Option Member) (opening : H → ℕ) (before after : List H) (numbers : ShapeNumbers) (code : ℤ) : Type 0 where
  pub answer : Result (Unit {0}) RenewAllRefusal
  pub is : code ≡ renew_all_code answer
  pub renews : RenewsAll kind L member before after numbers answer
  pub begins : BeginAnew opening before after answer

-- the same for the handles of a set, whose keys go on
abbrev pub TellsRenewal : List Handle → List Handle → ShapeNumbers → ℤ → Type 0
TellsRenewal = TellsRenewalBy as_set as_keys (λ (handle : Handle). handle.owned.member) (λ (handle : Handle). handle.opening)

-- and for the handles of a map, whose entries do
abbrev pub TellsMapRenewal : List MapHandle → List MapHandle → ShapeNumbers → ℤ → Type 0
TellsMapRenewal = TellsRenewalBy as_map as_entries (λ (handle : MapHandle). handle.owned.member) (λ (handle : MapHandle). handle.opening)
