-- How a set ends by all its members at once, and what they get.
use Rattle.std.specs.Prelude.{◌≡◌, ◌<◌, ◌≤◌, List, [], ◌∷◌, length, map}
use Rattle.vbr_slots.specs.views.Views.{PassView, TableView}
use Rattle.vbr_set.specs.calls.Members.{MemberView}
use Rattle.vbr_set.specs.declared.close_all_error.CloseAllError.{CloseAllError}
use Rattle.vbr_set.specs.declared.close_all_error.CloseAllError.TheVariants.{Missing, Memory}

-- all are of the set
abbrev pub AreOfSet : TableView → List MemberView → Type 0
AreOfSet set [] = Unit {0}
AreOfSet set (m ∷ ms) = (m.set ≡ set) × AreOfSet set ms

-- all are of one set
abbrev pub AreOfOneSet : List MemberView → Type 0
AreOfOneSet [] = Unit {0}
AreOfOneSet (m ∷ ms) = AreOfSet m.set ms

-- there are fewer of them than were opened with their set, or none
abbrev pub AreTooFew : List MemberView → Type 0
AreTooFew [] = Unit {0}
AreTooFew (m ∷ ms) = length (m ∷ ms) < m.set.passes

module _ {R : Type 0} (tells : TableView → List PassView → R → Type 0) where
  -- the members are all of a set, and the report describes the end of a run that begins with what each of them has seen, and in which the calls of each are exactly those that it has made
  pub record ReportsAllBy (members : List MemberView) (report : R) : Type 0 where
    pub set : TableView
    pub of_set : AreOfSet set members
    pub all : set.passes ≤ length members
    pub closes : tells set (map (λ m. m.pass) members) report

-- the members come back as they were
abbrev pub HasBack : List MemberView → CloseAllError MemberView → Type 0
HasBack members (Missing back) = back.items ≡ members
HasBack members (Memory back) = back.items ≡ members

-- members are missing; the other error is that there is no memory
abbrev pub LacksMembers : {M : Type 0} → CloseAllError M → Type 0
LacksMembers (Missing back) = Unit {0}
LacksMembers (Memory back) = ⊥
