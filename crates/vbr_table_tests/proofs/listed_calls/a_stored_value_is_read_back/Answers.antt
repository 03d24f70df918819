-- The list is worked.
use Rattle.vbr_table_tests.proofs.listed_calls.a_stored_value_is_read_back.Goals as goal

pub expect_valued-requires-clause-worked : goal.expect_valued-requires-clause-worked
expect_valued-requires-clause-worked g c = c.stored_value.ensures.worked
