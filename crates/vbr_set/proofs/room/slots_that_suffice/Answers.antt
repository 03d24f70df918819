use Rattle.vbr_set.proofs.whereabouts.TakenUp.{suffices}
use Rattle.vbr_set.proofs.room.slots_that_suffice.Goals as goal

pub returns : goal.returns
returns c = λ m n key budget keys aside found between.
    suffices m n key budget found.law found.has_all found.refused found.alone aside between keys
