-- The balances of all members of a set, added up.
use Rattle.std.specs.Prelude.{◌≡◌, ◌==◌, ◌<◌, ℕ, ℤ, pos, ◌+ℤ◌, List, [], ◌∷◌, count_by}
use Rattle.std.specs.Int.{w64, int_wrap}
use Rattle.vbr_slots.specs.steps.PassLaw.{PassLaw}
use Rattle.vbr_slots.specs.views.Views.{IsOf, PassView, TableView}
use Rattle.vbr_set.specs.members.AllMembers.{ReportsAllBy}
use Rattle.vbr_set.specs.members.Balances.{balance_of}
use Rattle.vbr_set.specs.reports.Closing.{ClosesBy}
use Rattle.vbr_set.specs.reports.Kinds.{KindOf, as_map, as_set}
use Rattle.vbr_set.specs.calls.Members.{MemberView}

-- the sum of the balances of members
abbrev pub sum_of_balances : List MemberView → ℤ
sum_of_balances [] = pos 0
sum_of_balances (m ∷ ms) = balance_of m +ℤ sum_of_balances ms

-- the same as far as 64 bits go
abbrev pub added_balances : List MemberView → ℤ
added_balances members = int_wrap w64 (sum_of_balances members)

-- each pass of the set belongs to one of the members
abbrev pub HasEachOnce : TableView → List MemberView → Type 0
HasEachOnce set members = (who : ℕ) → who < set.passes → count_by (λ m. m.pass.trace.who == who) members ≡ 1

-- if all members get a report, each once, their balances add up to the number of keys in the report, as far as 64 bits go; any pass of the set bears out that it is one
abbrev pub AddUpBy : {Item R : Type 0} → KindOf Item R → Type 0
AddUpBy {Item} {R} kind =
    (members : List MemberView) (report : R) (told : ReportsAllBy (ClosesBy kind) members report) (pass : PassView)
    → PassLaw pass → IsOf pass.trace told.set → HasEachOnce told.set members
    → added_balances members ≡ pos (kind.contents report).live

-- the same for sets and for maps
pub record BalancesAddUp : Type 0 where
  pub of_sets : AddUpBy as_set
  pub of_maps : AddUpBy as_map
