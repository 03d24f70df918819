-- The head stays held.
use Rattle.vbr_at_table.specs.reads.Held.{said}
use Rattle.vbr_table_tests.proofs.retiring.HeldThrough.{held_through}
use Rattle.vbr_table_tests.proofs.retiring.last_node.Goals as goal

pub returns-clause-head : goal.returns-clause-head
returns-clause-head g c =
    held_through (said c.args.slots.now c.args.head.now) c.next.result _ c.expect.ensures c.next.ensures.next
    (λ node read. read.keeps)
    c.requires.head
