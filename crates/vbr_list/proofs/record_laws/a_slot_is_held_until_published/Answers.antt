use Rattle.vbr_list.proofs.inserts.HeldSlots.{held_throughout, held_until_placed, held_until_published}
use Rattle.vbr_list.proofs.record_laws.a_slot_is_held_until_published.Goals as goal

pub returns : goal.returns
returns c = record { published = held_until_published; placed = held_until_placed; kept = held_throughout }
