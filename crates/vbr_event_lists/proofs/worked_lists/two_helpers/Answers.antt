-- The numbers of the link words are those of the list, which is worked.
use Rattle.std.proofs.Common.{ℕ, List, sym, subst}
use Rattle.vbr_machine.specs.Machine.{opening}
use Rattle.vbr_machine.specs.declared.event.Effect.{Effect}
use Rattle.vbr_machine.specs.declared.event.Step.{Step}
use Rattle.vbr_event_lists.specs.Worked.{AreWorked, one_slot}
use Rattle.vbr_event_lists.specs.Valued.{valued, with_values}
use Rattle.vbr_event_lists.specs.declared.worked_lists.TheConstants.{TWO_HELPERS_WORDS}
use Rattle.vbr_event_lists.proofs.RowLists as rows
use Rattle.vbr_event_lists.proofs.WorkedRows.{two_helpers}
use Rattle.vbr_event_lists.proofs.ValuedRows.{two_helpers_with_values}
use Rattle.vbr_event_lists.proofs.worked_lists.two_helpers.Goals as goal

pub returns-clause-worked : goal.returns-clause-worked
returns-clause-worked c =
    subst (λ (list : List (ℕ × Step × Effect)). AreWorked one_slot (opening one_slot) list TWO_HELPERS_WORDS)
    (λ i. rows.two_helpers_with (sym c.numbered.ensures i) (sym c.numbered-2.ensures i) (sym c.numbered-3.ensures i)
    (sym c.numbered-4.ensures i)) two_helpers

pub returns-clause-valued : goal.returns-clause-valued
returns-clause-valued c =
    subst (λ (list : List (ℕ × Step × Effect)). AreWorked (valued one_slot) (opening (valued one_slot))
    (with_values list) TWO_HELPERS_WORDS)
    (λ i. rows.two_helpers_with (sym c.numbered.ensures i) (sym c.numbered-2.ensures i) (sym c.numbered-3.ensures i)
    (sym c.numbered-4.ensures i)) two_helpers_with_values
