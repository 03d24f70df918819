-- The owner of a member of a set or a map as it stands in a handle, and the same as an owner of a member of any type: the same pointer with the same member.
use denote.Follow.{follows}
use denote.Ref.{MutBor}
use base.Fml.{Fml}
use Rattle.vbr_set.specs.calls.Members.{MemberView as Member}
use Rattle.vbr_handles.specs.MemberRows.{map_row, set_row}
use Rattle.vbr_handles.specs.declared.handle.SetOwner.{SetOwner}
use Rattle.vbr_handles.specs.declared.handle.MapOwner.{MapOwner}
use Rattle.vbr_handles.specs.declared.owner.Owner.{Owner}
use Rattle.vbr_handles.specs.contracts.handle.SetOwner as of_set
use Rattle.vbr_handles.specs.contracts.handle.MapOwner as of_map
use Rattle.vbr_handles.specs.contracts.owner.Owner as owning

-- the owner of a member of a set as one of any type, and back
abbrev pub owner_of_set : SetOwner → Owner Member
owner_of_set h = record { ptr = h.ptr; alloc = h.alloc; member = h.member }

abbrev pub set_owner : Owner Member → SetOwner
set_owner o = record { ptr = o.ptr; alloc = o.alloc; member = o.member }

-- once the borrow r ends, the owner h is the last one written through r
abbrev pub set_owner_follows : MutBor SetOwner → MutBor (Owner Member) → Fml
set_owner_follows h r = follows of_set.the_row (owning.the_row set_row) h.ghost_name r.ghost_name set_owner

-- the same for the owner of a member of a map
abbrev pub owner_of_map : MapOwner → Owner Member
owner_of_map h = record { ptr = h.ptr; alloc = h.alloc; member = h.member }

abbrev pub map_owner : Owner Member → MapOwner
map_owner o = record { ptr = o.ptr; alloc = o.alloc; member = o.member }

abbrev pub map_owner_follows : MutBor MapOwner → MutBor (Owner Member) → Fml
map_owner_follows h r = follows of_map.the_row (owning.the_row map_row) h.ghost_name r.ghost_name map_owner
