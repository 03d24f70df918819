-- The slot keeps its birth.
use Rattle.std.proofs.Common.{◌∙◌}
use Rattle.vbr_table_tests.proofs.running_table.OwnedSlots.{keyed_birth}
use Rattle.vbr_table_tests.proofs.running_table.store_node.Goals as goal

pub link_none-requires-clause-birth : goal.link_none-requires-clause-birth
link_none-requires-clause-birth c =
    keyed_birth c.args.pass.now.trace c.store_key.new.pass.trace 0 7 7 c.store_key.ensures.step ∙ c.requires.birth
