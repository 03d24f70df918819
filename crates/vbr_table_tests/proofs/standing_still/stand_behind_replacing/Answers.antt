-- The first rows of the list are worked.
use Rattle.vbr_machine.specs.Machine.{opening}
use Rattle.vbr_event_lists.specs.Worked.{many_epochs}
use Rattle.vbr_event_lists.specs.Valued.{valued}
use Rattle.vbr_event_lists.specs.declared.replacements.TheConstants.{REPLACED_VALUE_WORDS}
use Rattle.vbr_event_lists.proofs.Lemmas.{first_worked}
use Rattle.vbr_table_tests.proofs.standing_still.stand_behind_replacing.Goals as goal

pub stand_still-requires : goal.stand_still-requires
stand_still-requires g c =
    first_worked (valued many_epochs) c.args.steps c.replaced_value.result (opening (valued many_epochs))
    REPLACED_VALUE_WORDS
    c.replaced_value.ensures.worked
