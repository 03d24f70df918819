-- The hand stays the pass's, which is its table's; and the head stays held through the replacement.
use Rattle.std.proofs.Common.{rules}
use Rattle.vbr_at_table.proofs.Lemmas.{held_kept}
use Rattle.vbr_at_table.specs.reads.Held.{said}
use Rattle.vbr_table_tests.proofs.lost_exchanges.Kept.{hand_kept, own_replaced}
use Rattle.vbr_table_tests.proofs.lost_exchanges.go_on.Goals as goal

pub replace_entry-requires-clause-hand : goal.replace_entry-requires-clause-hand
replace_entry-requires-clause-hand g c = hand_kept c.args.hand c.read_entry.ensures.keeps c.requires.hand

pub unlink-requires-clause-own : goal.unlink-requires-clause-own
unlink-requires-clause-own g c =
    own_replaced c.read_entry.new.pass c.replace_entry.new.pass c.args.hand 307
    (said c.args.slots.now c.read_entry.result.1)
    c.replace_entry.result c.replace_entry.ensures.replaced c.replace_entry.ensures.lost c.read_entry.ensures.node
    c.read_entry.ensures.own

pub unlink-requires-clause-pred : goal.unlink-requires-clause-pred
unlink-requires-clause-pred g c =
    record {
      held = held_kept (said c.args.slots.now c.read_entry.result.0) c.replace_entry.ensures.keeps
          c.read_entry.ensures.head.held;
      unmarked = c.read_entry.ensures.head.unmarked;
    }
