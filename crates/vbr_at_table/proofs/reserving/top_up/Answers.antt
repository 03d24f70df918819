-- Once round the slots, in two ways, or as far as the tries go.
use Rattle.std.proofs.Common.{◌+◌, ◌-◌, ◌<◌, ℕ, sym, subst}
use Rattle.vbr_slots.specs.pools.Tried.{last_tried}
use Rattle.vbr_at_table.specs.pools.Reserving.{ReservesFrom}
use Rattle.vbr_at_table.proofs.reads.PlacesInShape.{counted_slots}
use Rattle.vbr_at_table.proofs.flags.Reserves.{grown_by}
use Rattle.vbr_at_table.proofs.flags.TopUps.{tops_up}
use Rattle.vbr_at_table.proofs.reserving.top_up.Goals as goal

pub returns-clause-tops_up : goal.returns-clause-tops_up
returns-clause-tops_up g c =
    let p = c.args.at.now.stepper.now in
    let q = c.reserve_from-first.new.at.stepper.now in
    let r = c.reserve_from-second.new.at.stepper.now in
    let slots = counted_slots c.slots-slots.ensures.slots c.shape.ensures.shape (sym c.args.at.now.own.1) in
    let tried = c.last_tried-start.ensures.tried in
    let low : last_tried p.trace < c.slots-slots.result =
    subst (λ (n : ℕ). last_tried p.trace < n) (sym slots)
    (subst (λ (n : ℕ). n < p.trace.start.shape.slots) tried c.last_tried-start.ensures.low) in
    let first = subst
    (λ (x : ℕ × ℕ). ReservesFrom p q (x.0 + 1) c.slots-slots.result x.1 c.args.probes c.reserve_from-first.result)
    (λ i. (tried i, c.most_kept-most.ensures i)) c.reserve_from-first.ensures.reserves in
    let second =
    subst (λ (x : ℕ × ℕ).
    ReservesFrom q r 0 (x.0 + 1) x.1 (c.args.probes - c.reserve_from-first.result) c.reserve_from-second.result)
    (λ i. (tried i, c.most_kept-most.ensures i)) c.reserve_from-second.ensures.reserves in
    tops_up low first second slots
    (grown_by first.takes second.takes _ _ c.pool-before.ensures.pool c.pool.ensures.pool)
