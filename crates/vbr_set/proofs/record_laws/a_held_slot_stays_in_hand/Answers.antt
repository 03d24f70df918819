use Rattle.vbr_set.proofs.held_slots.HeldSlots.{held_throughout}
use Rattle.vbr_set.proofs.record_laws.a_held_slot_stays_in_hand.Goals as goal

pub returns : goal.returns
returns c = held_throughout
