-- `owner_mut` lends the owner as one of any type, which owns the same.
use Rattle.vbr_handles.proofs.Names.{refl, set_owner, owner_of_set}
use Rattle.vbr_handles.proofs.Recast.{recasts}
use Rattle.vbr_handles.specs.MemberRows.{set_row}
use Rattle.vbr_handles.specs.contracts.handle.SetOwner.{the_row}
use Rattle.vbr_handles.specs.contracts.handle.SetOwner.owner_mut.Key.{name}
use Rattle.vbr_handles.proofs.handle.SetOwner.owner_mut.Statement.{statement}
use Rattle.vbr_handles.specs.contracts.owner.Owner as Owner
use Rattle.vbr_handles.proofs.handle.SetOwner.owner_mut.Code as code

pub owner_mut_spec : {M : Type 1} → statement M
owner_mut_spec 𝓤 𝓛 𝓜 𝓡 wired =
    recasts the_row (Owner.the_row set_row) tt tt owner_of_set set_owner 𝓛 𝓜 𝓡 refl (λ h vs. refl) (λ w vs. refl) name
    (code.unfolded 𝓤 𝓛.H 𝓜 𝓡 wired)
