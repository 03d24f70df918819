use Rattle.vbr_table_tests.proofs.running_table.Taking.{reached, reached_for}
use Rattle.vbr_table_tests.proofs.running_table.take.Goals as goal

pub returns-clause-has : goal.returns-clause-has
returns-clause-has c =
    reached_for c.args.slot c.args.pass.trace c.take_flag.new.pass.trace c.take_flag.result
    (reached c.args.slot c.args.pass c.take_flag.new.pass c.take_flag.result c.take_flag.ensures.taken
    c.take_flag.ensures.missed)
