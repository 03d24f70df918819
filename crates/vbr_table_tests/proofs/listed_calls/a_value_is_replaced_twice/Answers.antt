-- The list is worked.
use Rattle.vbr_table_tests.proofs.listed_calls.a_value_is_replaced_twice.Goals as goal

pub expect_valued-requires-clause-worked : goal.expect_valued-requires-clause-worked
expect_valued-requires-clause-worked g c = c.replaced_value.ensures.worked
