-- What a handle takes in reserve when it is opened or renewed.
use Rattle.std.specs.Prelude.{◌≡◌, ℕ, ◌/◌, nat_lt, Bool, true, false, List}
use Rattle.std.specs.List.{AllZip}
use Rattle.vbr_slots.specs.steps.PassLaw.{PassLaw}
use Rattle.vbr_slots.specs.views.Views.{TableView}
use Rattle.vbr_at_table.specs.pools.Reserving.{TopsUp}
use Rattle.vbr_set.specs.calls.Members.{MemberView as Member}
use Rattle.vbr_handles.specs.ToppingUp.{reserve_of}
use Rattle.vbr_handles.specs.declared.reserves.TheConstants.{SHARE}

-- whether a set or a map has fewer than 64 slots for each handle
abbrev pub is_small : TableView → Bool
is_small set = nat_lt (set.start.shape.slots / set.passes) SHARE

-- the member topped its own pool up to its reserve, in as many tries
pub record TakesReserve (m n : Member) : Type 0 where
  pub set : n.set ≡ m.set
  pub aside : n.aside ≡ m.aside
  pub taken : ℕ
  pub steps : ℕ
  pub tops_up : TopsUp m.pass n.pass (reserve_of m.set) (reserve_of m.set) taken steps
  pub law : PassLaw n.pass

-- it did so, unless the set is small; then the member is as it was
abbrev pub TakesReserveUnless : Bool → Member → Member → Type 0
TakesReserveUnless true m n = n ≡ m
TakesReserveUnless false m n = TakesReserve m n

-- the same for a member that a handle is opened with
abbrev pub StartsWithReserve : Member → Member → Type 0
StartsWithReserve m n = TakesReserveUnless (is_small m.set) m n

-- and for each of several
abbrev pub StartWithReserves : List Member → List Member → Type 0
StartWithReserves = AllZip StartsWithReserve
