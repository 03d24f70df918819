use Rattle.vbr_slots.proofs.pools.Passes.{stamp_loaded}
use Rattle.vbr_slots.proofs.at_table.AtTable.load_stamp.Goals as goal

pub returns-clause-known : goal.returns-clause-known
returns-clause-known g c = stamp_loaded _ _ c.args.slot c.load.result c.law.ensures.start c.load.ensures.step
