use Rattle.vbr_world.proofs.ReachedWorlds.{reached_step}
use Rattle.vbr_world.proofs.world.World.step.Goals as goal

pub invariant_of-self : goal.invariant_of-self
invariant_of-self c =
    reached_step c.step.result c.self.inside.lists c.step.new.self c.args.event c.self.invariant c.step.ensures.made
    c.step.ensures.refused c.step.ensures.stays
