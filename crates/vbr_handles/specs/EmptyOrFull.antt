-- What a call leaves in a handle that is empty, and in one that is full.
use Rattle.std.specs.Prelude.{Option, None, Some}
use Rattle.vbr_set.specs.calls.Members.{MemberView as Member}

-- an empty handle stays so, and the first statement holds; a full one stays full, and the second holds of its member before and after
abbrev pub EmptyOrFull : Type 0 → (Member → Member → Type 0) → Option Member → Option Member → Type 0
EmptyOrFull empty full None None = empty
EmptyOrFull empty full None (Some n) = ⊥
EmptyOrFull empty full (Some m) None = ⊥
EmptyOrFull empty full (Some m) (Some n) = full m n
