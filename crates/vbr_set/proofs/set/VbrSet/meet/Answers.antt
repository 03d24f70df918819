use Rattle.std.proofs.Common.{sym, ◌∙◌}
use Rattle.vbr_set.proofs.histories.Histories.{met_safe, shares}
use Rattle.vbr_set.proofs.set.VbrSet.meet.Goals as goal

pub returns-clause-meets : goal.returns-clause-meets
returns-clause-meets g c = record {
  step = c.meet.ensures.step;
  pool = c.meet.ensures.pool;
  met = c.meet.ensures.met;
  shares = shares c.law.ensures.start (c.requires.other.1 ∙ sym c.requires.own.1) c.meet.ensures.step.1
      c.meet.ensures.met;
  safe = met_safe c.law.ensures.start c.meet.ensures.step.1;
}
