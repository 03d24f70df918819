-- How many passes the set of a handle's member was opened with.
use Rattle.std.specs.Prelude.{◌≡◌, ℕ, Option, IfSome}
use Rattle.vbr_set.specs.calls.Members.{MemberView as Member}

-- the number is the number of passes that the set of the member was opened with, if there is a member
abbrev pub IsPassCount : Option Member → ℕ → Type 0
IsPassCount member number = IfSome member (λ m. number ≡ m.set.passes)
