-- The node is present and its value known until it is marked.
use Rattle.vbr_at_table.specs.reads.Held.{said}
use Rattle.vbr_table_tests.proofs.retiring.HeldThrough.{own_marked, present_kept}
use Rattle.vbr_table_tests.proofs.access.mark_one_entry.Goals as goal

pub mark_entry-requires-clause-node : goal.mark_entry-requires-clause-node
mark_entry-requires-clause-node g c =
    present_kept (said c.args.slots.now c.read_one.result.1) c.read_value.ensures.keeps c.read_one.ensures.node

pub returns : goal.returns
returns g c =
    let node = said c.args.slots.now c.read_one.result.1 in
    record {
      own = own_marked c.read_value.new.pass.trace c.mark_entry.new.pass.trace node c.mark_entry.result
          c.mark_entry.ensures.removed c.mark_entry.ensures.lost
          (present_kept node c.read_value.ensures.keeps c.read_one.ensures.node) c.read_value.ensures.valued
          c.read_value.ensures.own;
    }
