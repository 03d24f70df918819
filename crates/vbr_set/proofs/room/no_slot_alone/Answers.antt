use Rattle.vbr_set.proofs.whereabouts.TakenUp.{taken_up}
use Rattle.vbr_set.proofs.room.no_slot_alone.Goals as goal

pub returns : goal.returns
returns c = λ m n key budget found. taken_up m n key budget found.law found.has_all found.refused found.alone
