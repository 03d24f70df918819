-- The node is present until it is marked, and the head stays held.
use Rattle.vbr_at_table.proofs.Lemmas.{held_kept}
use Rattle.vbr_at_table.specs.reads.Held.{said}
use Rattle.vbr_table_tests.proofs.retiring.HeldThrough.{own_marked, present_kept}
use Rattle.vbr_table_tests.proofs.list.mark_one.Goals as goal

pub mark_entry-requires-clause-node : goal.mark_entry-requires-clause-node
mark_entry-requires-clause-node g c =
    present_kept (said c.args.slots.now c.read_one.result.1) c.read_value.ensures.keeps c.read_one.ensures.node

pub returns-clause-own : goal.returns-clause-own
returns-clause-own g c =
    let node = said c.args.slots.now c.read_one.result.1 in
    own_marked c.read_value.new.pass.trace c.mark_entry.new.pass.trace node c.mark_entry.result
    c.mark_entry.ensures.removed c.mark_entry.ensures.lost
    (present_kept node c.read_value.ensures.keeps c.read_one.ensures.node) c.read_value.ensures.valued
    c.read_value.ensures.own

pub returns-clause-head : goal.returns-clause-head
returns-clause-head g c =
    let head = said c.args.slots.now c.read_one.result.0 in
    held_kept head c.mark_entry.ensures.keeps.keeps
    (held_kept head c.read_value.ensures.keeps c.read_one.ensures.head.held)
