-- A slot was taken, or it was outside the shared pool, and so were those up to the next one.
use Rattle.std.proofs.Common.{◌<◌, ◌∷◌, [], ◌++◌, List, ℕ, ap, ◌∙◌, length, refl, sym, subst, arith}
use Rattle.vbr_machine.specs.Start.{IsStart}
use Rattle.vbr_slots.proofs.Lemmas.{table_on}
use Rattle.vbr_at_table.proofs.flags.Reserves.{reserving_lost, reserving_won, takes_won, won_apart}
use Rattle.vbr_at_table.proofs.reserving.reserve_from.Goals as goal

pub loop-slot-preserved-in-Ok : goal.loop-slot-preserved-in-Ok
loop-slot-preserved-in-Ok g c =
    let won = c.in-Ok.ensures.taken in
    let hand = c.keep.ensures.hand ∙ won_apart c.loop-slot.at.stepper.now won.did won.there c.law.ensures.own in (
      table_on c.loop-slot.invariant.0 (table_on c.take_flag.ensures.table c.keep.ensures.table),
      reserving_won c.keep.new.self.stepper.now c.behind.result c.loop-slot.invariant.1
          (subst IsStart (sym c.args.at.now.own.1) c.shape.ensures.is_start) c.loop-slot-test.true c.if-used-probes.true
          (subst (λ (xs : List ℕ). length xs < c.args.most) c.pool.ensures.pool c.if-pool-most.true) won.did
          c.keep.ensures.trace (takes_won won.did won.there (subst IsStart won.did.same.1 c.law.ensures.start)
          won.keeps c.keep.ensures.trace c.keep.ensures.pool hand)
          (c.keep.ensures.pool ∙ ap (λ (xs : List ℕ). xs ++ c.loop-slot.slot ∷ []) won.keeps.0) c.behind.ensures,
    )

pub loop-slot-preserved : goal.loop-slot-preserved
loop-slot-preserved g c =
    let lost = c.in-Err.ensures.missed in (
      table_on c.loop-slot.invariant.0 c.take_flag.ensures.table,
      reserving_lost c.take_flag.new.self.stepper.now c.behind-in-Err.result c.loop-slot.invariant.1
          (subst IsStart (sym c.args.at.now.own.1) c.shape.ensures.is_start) c.loop-slot-test.true c.if-used-probes.true
          (subst (λ (xs : List ℕ). length xs < c.args.most) c.pool.ensures.pool c.if-pool-most.true) lost.did refl
          lost.missing lost.keeps (let to = c.requires.to in let low = c.loop-slot-test.true in omega (arith, to, low))
          c.behind-in-Err.ensures,
    )
