-- Whether a pass comes twice, among members and among the handles that have them.
use Rattle.std.specs.Prelude.{◌==◌, ◌<◌, ℕ, List, Option, None, Some, count_by}
use Rattle.vbr_set.specs.calls.Members.{MemberView as Member}

-- two of the members, or more, have the same pass: ownership rules it out, and a program in C may copy a handle
abbrev pub HasTwice : List Member → Type 0
HasTwice members = (who : ℕ) × (1 < count_by (λ m. m.pass.trace.who == who) members)

-- the number of the pass of a member; 0 if there is none
abbrev pub number_shown : Option Member → ℕ
number_shown None = 0
number_shown (Some m) = m.pass.trace.who

-- how many handles have the pass of this number
abbrev pub borne : {H : Type 0} → (H → Option Member) → List H → ℕ → ℕ
borne member handles who = count_by (λ h. number_shown (member h) == who) handles
