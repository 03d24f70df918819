use Rattle.vbr_handles.proofs.WalkNames.{exits_of, shape, fields, to, IsSend, AllSend, owning_send, struct_send}
use Rattle.vbr_handles.proofs.WalkNames.{sendable, quiet}
use Rattle.vbr_set.proofs.member.Member.TheSendSync.{the_send as member}
use Rattle.vbr_handles.specs.MemberRows.{set_row}
use Rattle.vbr_handles.proofs.Owning.{owns_keyless}
use Rattle.vbr_handles.specs.contracts.handle.SetOwner.{the_row, the_type}
use Rattle.std_heap.proofs.Global.TheSendSync as heap
use Rattle.vbr_words.specs.contracts.nodes.Keys as Keys
use Rattle.vbr_words.specs.contracts.nodes.KeysNodes.TheImpl as kind

pub send : IsSend the_row
send =
    let all : AllSend (fields the_type) = (search sendable, (heap.the_field_send, tt)) in
    owning_send the_type all (λ d. owns_keyless set_row (member Keys.the_row kind.ghosts) d.alloc d.ptr d.member)
    (λ k. quiet (to the_type) (exits_of k (fields the_type)) ((struct_send (shape the_type) all).leaving k))
