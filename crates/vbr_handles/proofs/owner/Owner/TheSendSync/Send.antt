use Rattle.atomic_table.proofs.Names.{RattleType}
use Rattle.vbr_handles.proofs.WalkNames.{exits_of, shape, fields, to, IsSend, AllSend, owning_send, struct_send}
use Rattle.vbr_handles.proofs.WalkNames.{sendable, quiet}
use Rattle.vbr_handles.proofs.Owning.{owns_keyless}
use Rattle.vbr_handles.specs.contracts.owner.Owner.{the_row, the_type}
use Rattle.std_heap.proofs.Global.TheSendSync as handle

pub send : (M : RattleType) → IsSend M → IsSend (the_row M)
send M s =
    let O = the_type M in
    let all : AllSend (fields O) = (search sendable, (handle.the_field_send, tt)) in
    owning_send O all (λ d. owns_keyless M s d.alloc d.ptr d.member)
    (λ k. quiet (to O) (exits_of k (fields O)) ((struct_send (shape O) all).leaving k))
