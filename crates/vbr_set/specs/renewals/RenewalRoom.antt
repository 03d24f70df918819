-- Each report of all members shows whether there is room for a renewal.
use Rattle.std.specs.Prelude.{ℕ, ◌<◌, ◌≤◌, List, length}
use Rattle.vbr_slots.specs.steps.PassLaw.{PassLaw}
use Rattle.vbr_slots.specs.views.Views.{IsOf, PassView}
use Rattle.vbr_set.specs.members.AllMembers.{ReportsAllBy}
use Rattle.vbr_set.specs.members.BalanceSums.{HasEachOnce}
use Rattle.vbr_set.specs.reports.Closing.{ClosesBy}
use Rattle.vbr_set.specs.reports.Kinds.{KindOf, as_map, as_set}
use Rattle.vbr_set.specs.calls.Members.{MemberView}
use Rattle.vbr_set.specs.renewals.RenewingAll.{HasNoRoom, HasRoom}

-- if all members get a report, each once, it lists more than so many slots if there is no room in them, and no more if there is; any pass of the set bears out that it is one
abbrev pub RoomToldBy : {Item R : Type 0} → KindOf Item R → Type 0
RoomToldBy {Item} {R} kind =
    (members : List MemberView) (report : R) (told : ReportsAllBy (ClosesBy kind) members report) (pass : PassView)
    → PassLaw pass → IsOf pass.trace told.set → HasEachOnce told.set members → (slots : ℕ)
    → (HasNoRoom kind members slots → slots < length (kind.contents report).listed.items)
    × (HasRoom kind members slots → length (kind.contents report).listed.items ≤ slots)

-- the same for sets and for maps
pub record RoomIsTold : Type 0 where
  pub of_sets : RoomToldBy as_set
  pub of_maps : RoomToldBy as_map
