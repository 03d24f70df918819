-- The slot keeps its birth.
use Rattle.std.proofs.Common.{◌∙◌}
use Rattle.vbr_table_tests.proofs.running_table.OwnedSlots.{keyed_birth, valued_birth}
use Rattle.vbr_table_tests.proofs.running_table.store_entry.Goals as goal

pub link_none-requires-clause-birth : goal.link_none-requires-clause-birth
link_none-requires-clause-birth c =
    valued_birth c.store_key.new.pass.trace c.store_value.new.pass.trace 0 107 107 c.store_value.ensures.step
    ∙ keyed_birth c.args.pass.now.trace c.store_key.new.pass.trace 0 7 7 c.store_key.ensures.step
    ∙ c.requires.birth
