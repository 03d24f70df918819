use Rattle.vbr_world.proofs.ReachedWorlds.{reached_legal, reached_values}
use Rattle.vbr_world.proofs.world.World.calls.Goals as goal

pub returns-clause-legal : goal.returns-clause-legal
returns-clause-legal c = rw (c.calls.ensures, ← c.self.view_is) (reached_legal c.self.inside.lists c.self.invariant)

pub returns-clause-values : goal.returns-clause-values
returns-clause-values c = rw (c.calls.ensures, ← c.self.view_is) (reached_values c.self.inside.lists c.self.invariant)
