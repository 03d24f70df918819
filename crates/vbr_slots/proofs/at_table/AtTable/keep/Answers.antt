use Rattle.vbr_slots.proofs.pools.Pools.{pool_kept}
use Rattle.vbr_slots.proofs.at_table.AtTable.keep.Goals as goal

pub invariant_of-stepper : goal.invariant_of-stepper
invariant_of-stepper g c =
    record {
      start = c.stepper.invariant.start;
      pool = pool_kept c.args.slot c.stepper.view_is c.stepper.invariant.pool c.requires.slot c.requires.kept
          c.requires.outside c.put.ensures.pool c.put.ensures.hand;
      tried = c.stepper.invariant.tried;
      low = c.stepper.invariant.low;
    }
