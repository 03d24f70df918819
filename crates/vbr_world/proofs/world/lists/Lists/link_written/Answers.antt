-- The pass answers with the word of the link, and the epoch that it has read fits.
use Rattle.vbr_world.proofs.Learned.{link_read}
use Rattle.vbr_world.proofs.MadeSteps.{room_kept}
use Rattle.vbr_world.proofs.world.lists.Lists.link_written.Goals as goal

pub returns-clause-link : goal.returns-clause-link
returns-clause-link c =
    rw (← c.self.view_is)
    (link_read _ c.args.event.now.pass _ c.index-pass.result.now c.args.event.now.step c.self.invariant
    (rw (← c.self.view_is) at c.requires.0) c.index-pass.ensures c.link_written.ensures.word
    c.link_written.ensures.fits)

pub returns-clause-room : goal.returns-clause-room
returns-clause-room c =
    let accepted = rw (← c.self.view_is) at c.requires in
    rw (← c.self.view_is)
    (room_kept _ c.args.event.now.pass c.epoch.result c.index-pass.result.now c.args.event.now.step c.self.invariant
    accepted.0
    c.index-pass.ensures c.epoch.ensures.epoch c.epoch.ensures.fits accepted.1)
