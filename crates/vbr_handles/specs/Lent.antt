-- An owner, after a write through `member_mut`.
use denote.Follow.{follows}
use denote.RattleType.{RattleType}
use denote.Ref.{MutBor}
use base.Fml.{Fml}
use Rattle.std.specs.declared.option.Option.TheVariants.{Some}
use Rattle.vbr_handles.specs.declared.owner.Owner.{Owner}
use Rattle.vbr_handles.specs.contracts.owner.Owner.{the_row}

-- an owner with another value of its member
abbrev pub with_member : {M : Type 0} → Owner M → M → Owner M
with_member o w = record { ptr = o.ptr; alloc = o.alloc; member = Some w }

-- once the borrow r ends, the owner o holds the last value written through r
abbrev pub owner_follows : (R : RattleType) → MutBor (Owner R.Denot) → MutBor R.Denot → Fml
owner_follows R o r = follows (the_row R) R o.ghost_name r.ghost_name (with_member o.now)
