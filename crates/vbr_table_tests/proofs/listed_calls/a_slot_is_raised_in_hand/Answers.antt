-- The list is worked, without values and with them.
use Rattle.vbr_table_tests.proofs.listed_calls.a_slot_is_raised_in_hand.Goals as goal

pub expect_both-requires-clause-bare : goal.expect_both-requires-clause-bare
expect_both-requires-clause-bare g c = c.raised_in_hand.ensures.worked

pub expect_both-requires-clause-valued : goal.expect_both-requires-clause-valued
expect_both-requires-clause-valued g c = c.raised_in_hand.ensures.valued
