-- What a handle answers that takes slots in reserve.
use Rattle.std.specs.Prelude.{◌≡◌, ℕ, Option}
use Rattle.vbr_at_table.specs.pools.Reserving.{Reserves}
use Rattle.vbr_set.specs.calls.Members.{MemberView as Member}
use Rattle.vbr_handles.specs.EmptyOrFull.{EmptyOrFull}

-- so many slots were taken: none by an empty handle, which stays so, and by a full one as many as its pass took when so many were wanted
abbrev pub TellsReserve : Option Member → Option Member → ℕ → ℕ → Type 0
TellsReserve m n wanted taken = EmptyOrFull (taken ≡ 0) (λ m n. (n.set ≡ m.set) × (n.aside ≡ m.aside) × (steps : ℕ) × Reserves m.pass n.pass wanted taken steps) m n
