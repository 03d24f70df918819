-- The list is worked, without values and with them.
use Rattle.vbr_table_tests.proofs.listed_calls.two_passes_unlink_one_node.Goals as goal

pub expect_both-requires-clause-bare : goal.expect_both-requires-clause-bare
expect_both-requires-clause-bare g c = c.two_helpers.ensures.worked

pub expect_both-requires-clause-valued : goal.expect_both-requires-clause-valued
expect_both-requires-clause-valued g c = c.two_helpers.ensures.valued
