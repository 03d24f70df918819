-- What contracts see of a pass with a reference to its set, and the invariant of the two.
use Rattle.std.specs.Prelude.{◌≡◌, None}
use Rattle.vbr_slots.specs.views.Views.{IsOf}
use Rattle.vbr_set.specs.calls.Members.{MemberView, as_member}
use Rattle.vbr_set.specs.declared.set_ref.VbrSetRef.TheInside.{Inside}

-- what contracts see
abbrev pub set_ref_view : {N : Type 0} → Inside N → MemberView
set_ref_view r = as_member r.set.now r.pass

-- its pass is of the set, and has no slot in hand
pub record IsSetRef {N : Type 0} (r : Inside N) : Type 0 where
  pub own : IsOf r.pass.trace r.set.now
  pub empty_hand : r.pass.hand ≡ None
