-- The node's key and its value are known, and the pass is its table's.
use Rattle.std.proofs.Common.{rules}
use Rattle.vbr_at_table.specs.reads.Held.{said}
use Rattle.vbr_table_tests.proofs.lost_exchanges.Kept.{own_told}
use Rattle.vbr_table_tests.proofs.lost_exchanges.answer_get.Goals as goal

pub confirm_present_entry-told-requires-clause-asked : goal.confirm_present_entry-told-requires-clause-asked
confirm_present_entry-told-requires-clause-asked g c =
    λ get. (c.requires.node.has_values, c.requires.node.valued c.requires.node.has_values)

pub returns-clause-own : goal.returns-clause-own
returns-clause-own g c =
    own_told c.args.pass.now.trace c.confirm_present_entry-told.new.pass.trace
    (said c.args.slots.now c.args.node.now)
    c.confirm_present_entry-told.result c.confirm_present_entry-told.ensures.answers
    c.confirm_present_entry-told.ensures.lost c.requires.node c.requires.own
