use Rattle.vbr_set.proofs.held_slots.HeldSlots.{held_alone}
use Rattle.vbr_set.proofs.record_laws.a_held_slot_is_private.Goals as goal

pub returns : goal.returns
returns c = held_alone
