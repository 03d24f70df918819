-- Once round the slots, in two ways.
use Rattle.std.proofs.Common.{sym, arith}
use Rattle.vbr_at_table.proofs.reads.PlacesInShape.{counted_slots}
use Rattle.vbr_at_table.proofs.flags.Reserves.{grown_by, reserves_round}
use Rattle.vbr_at_table.proofs.reserving.reserve.Goals as goal

pub returns-clause-reserves : goal.returns-clause-reserves
returns-clause-reserves g c =
    let slots = counted_slots c.slots-slots.ensures.slots c.shape.ensures.shape (sym c.args.at.now.own.1) in
    let low = c.last_tried.ensures.low in
    let first = c.reserve_from-first.ensures.reserves in
    let second = c.reserve_from-second.ensures.reserves in
    reserves_round slots c.most_kept-most.ensures (omega (arith, slots, low)) (omega arith) first second
    (grown_by first.takes second.takes _ _ c.pool-before.ensures.pool c.pool.ensures.pool)
