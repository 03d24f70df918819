-- The pass learns, and the calls of a step that makes some are kept.
use Rattle.std.proofs.Common.{sym}
use Rattle.vbr_world.proofs.Learned.{learned_silent}
use Rattle.vbr_world.proofs.world.lists.Lists.learn.Goals as goal

pub returns-in_ok-learn_at-in-None-clause-learned : goal.returns-in_ok-learn_at-in-None-clause-learned
returns-in_ok-learn_at-in-None-clause-learned c =
    rw (← c.self.view_is)
    (learned_silent _ c.learn_at.new.passes.items c.args.event.now.pass c.args.event.now.step c.args.found
    c.stamp_shown-stamp.result c.self.invariant (rw (← c.self.view_is) at c.requires.found)
    (rw (← c.self.view_is) at c.stamp_shown-stamp.ensures) c.in_ok-learn_at-in-None.ensures.learned.knows
    (rw (← c.self.view_is) at (sym c.in-None.ensures)))
