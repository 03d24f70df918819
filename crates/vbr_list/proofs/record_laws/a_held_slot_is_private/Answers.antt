use Rattle.vbr_list.proofs.inserts.HeldSlots.{held_alone}
use Rattle.vbr_list.proofs.record_laws.a_held_slot_is_private.Goals as goal

pub returns : goal.returns
returns c = held_alone
