-- Members that were taken apart. Only contracts of private functions cite this.
use Rattle.std.specs.Prelude.{List, [], ◌∷◌}
use Rattle.vbr_slots.specs.views.Views.{PassView}
use Rattle.vbr_set.specs.calls.Members.{MemberView}
use Rattle.vbr_set.specs.members.Sharing.{IsStake, member_with}
use Rattle.vbr_set.specs.declared.member.stake.Stake.{Stake}

-- there is a pass for each stake, at its place
abbrev pub AreParts : {N : Type 0} → List (Stake N) → List PassView → Type 0
AreParts [] [] = Unit {0}
AreParts (stake ∷ stakes) (pass ∷ passes) = IsStake stake pass × AreParts stakes passes
AreParts _ _ = ⊥

-- the members that stakes and passes make, each of those at one place
abbrev pub members_of : {N : Type 0} → List (Stake N) → List PassView → List MemberView
members_of (stake ∷ stakes) (pass ∷ passes) = member_with stake pass ∷ members_of stakes passes
members_of _ _ = []
