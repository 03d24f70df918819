-- Where it stops is said of the opening.
use Rattle.vbr_world.proofs.Replayed.{stops_from}
use Rattle.vbr_world.proofs.world.replay.Goals as goal

pub returns-in-Ok-clause-stops : goal.returns-in-Ok-clause-stops
returns-in-Ok-clause-stops c =
    stops_from _ _ c.in-Ok.world c.args.events.now c.go_on.result c.in-Ok.ensures.opening c.go_on.ensures.stops
