-- The pass is its table's.
use Rattle.vbr_at_table.specs.reads.Held.{said}
use Rattle.vbr_table_tests.proofs.lost_exchanges.Kept.{own_replaced}
use Rattle.vbr_table_tests.proofs.lost_exchanges.lose_exchange.Goals as goal

pub returns-clause-own : goal.returns-clause-own
returns-clause-own g c =
    own_replaced c.args.pass.now c.replace_entry.new.pass c.args.hand 307 (said c.args.slots.now c.args.node.now)
    c.replace_entry.result
    c.replace_entry.ensures.replaced c.replace_entry.ensures.lost c.requires.node c.requires.own
