use Rattle.vbr_player.proofs.Standing.{are_of_played}
use Rattle.vbr_player.proofs.phase.play_phase.Goals as goal

pub meet_all-requires : goal.meet_all-requires
meet_all-requires g c =
    are_of_played g.N.Asked.KIND c.args.part.budget c.args.part.lines.now c.args.workers.items
    c.in_ok-workers.workers.items c.requires.of c.in_ok-workers.ensures.1.0

pub returns-clause-met : goal.returns-clause-met
returns-clause-met g c =
    record { apart = c.in_ok-workers.workers.items; played = c.in_ok-workers.ensures.1.0; meets = c.meet_all.ensures }
