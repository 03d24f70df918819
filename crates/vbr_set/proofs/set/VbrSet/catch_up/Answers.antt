use Rattle.vbr_set.proofs.histories.CatchingUp.{catches_up}
use Rattle.vbr_set.proofs.set.VbrSet.catch_up.Goals as goal

pub returns : goal.returns
returns g c =
    record {
      catches =
          catches_up c.requires.own c.law.ensures.start c.catch_up.ensures.since c.catch_up.ensures.pool
          c.catch_up.ensures.begins;
    }
