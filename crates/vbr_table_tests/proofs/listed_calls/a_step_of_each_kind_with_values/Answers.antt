-- The list is worked.
use Rattle.vbr_table_tests.proofs.listed_calls.a_step_of_each_kind_with_values.Goals as goal

pub expect_valued-requires-clause-worked : goal.expect_valued-requires-clause-worked
expect_valued-requires-clause-worked g c = c.standing_rows_with_values.ensures.worked
