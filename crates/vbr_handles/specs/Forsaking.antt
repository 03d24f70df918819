-- What is left of a handle that gives up the slots of its pass.
use Rattle.std.specs.Prelude.{◌≡◌, Option, None}
use Rattle.vbr_slots.specs.pools.Forsaking.{Forsakes}
use Rattle.vbr_set.specs.calls.Members.{MemberView as Member}
use Rattle.vbr_handles.specs.EmptyOrFull.{EmptyOrFull}

-- an empty handle stays so, and the pass of a full one gave up its slots
abbrev pub HasForsaken : Option Member → Option Member → Type 0
HasForsaken m n = EmptyOrFull (Unit {0}) (λ m n. (n.set ≡ m.set) × (n.aside ≡ None) × Forsakes m.pass n.pass) m n
