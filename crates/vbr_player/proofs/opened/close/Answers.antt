use Rattle.vbr_player.proofs.Ends.{closes_as}
use Rattle.vbr_player.proofs.opened.close.Goals as goal

pub returns-in-Ok-clause-closes : goal.returns-in-Ok-clause-closes
returns-in-Ok-clause-closes g c =
    closes_as g.met.N.Playable.played c.args.set c.args.passes.items c.in-Ok.report c.in-Ok.ensures.ok
