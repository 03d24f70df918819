-- A store of an entry takes four steps.
use Rattle.vbr_table_tests.proofs.lost_exchanges.Kept.{four}
use Rattle.vbr_table_tests.proofs.lost_exchanges.replace_at.Goals as goal

pub returns-clause-took : goal.returns-clause-took
returns-clause-took c = four c.requires.node.has_values c.replace.ensures.stores
