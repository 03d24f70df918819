-- What contracts see of a member, and its invariant.
use Rattle.std.specs.Prelude.{◌≡◌}
use Rattle.vbr_at_table.specs.hands.Aside.{HasAside}
use Rattle.vbr_set.specs.members.Balances.{balance_of}
use Rattle.vbr_set.specs.calls.Members.{MemberView, as_member}
use Rattle.vbr_set.specs.members.Sharing.{IsPart, set_shared}
use Rattle.vbr_set.specs.declared.member.Member.TheInside.{Inside}

-- what contracts see
abbrev pub member_view : {N : Type 0} → Inside N → MemberView
member_view m = record { set = set_shared m.share; pass = m.pass; aside = m.aside }

-- its pass is of its set, has no slot in hand, and can come back; its balance is the member's; and the slot that is put aside is the pass's
pub record IsMember {N : Type 0} (m : Inside N) : Type 0 where
  pub part : IsPart m.share m.pass
  pub counted : m.balance ≡ balance_of (as_member (set_shared m.share) m.pass)
  pub put_aside : HasAside m.pass m.aside
