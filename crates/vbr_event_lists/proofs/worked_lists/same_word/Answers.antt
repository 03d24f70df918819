-- The numbers of the link words are those of the list, which is worked.
use Rattle.std.proofs.Common.{ℕ, List, sym, subst}
use Rattle.vbr_machine.specs.Machine.{opening}
use Rattle.vbr_machine.specs.declared.event.Effect.{Effect}
use Rattle.vbr_machine.specs.declared.event.Step.{Step}
use Rattle.vbr_event_lists.specs.Worked.{AreWorked, three_slots}
use Rattle.vbr_event_lists.specs.Valued.{valued, with_values}
use Rattle.vbr_event_lists.specs.declared.worked_lists.TheConstants.{SAME_WORD_WORDS}
use Rattle.vbr_event_lists.proofs.RowLists as rows
use Rattle.vbr_event_lists.proofs.WorkedRows.{same_word}
use Rattle.vbr_event_lists.proofs.ValuedRows.{same_word_with_values}
use Rattle.vbr_event_lists.proofs.worked_lists.same_word.Goals as goal

pub returns-clause-worked : goal.returns-clause-worked
returns-clause-worked c =
    subst (λ (list : List (ℕ × Step × Effect)). AreWorked three_slots (opening three_slots) list SAME_WORD_WORDS)
    (λ i. rows.same_word_with (sym c.numbered.ensures i) (sym c.numbered-2.ensures i) (sym c.numbered-3.ensures i)
    (sym c.numbered-4.ensures i) (sym c.numbered-5.ensures i)) same_word

pub returns-clause-valued : goal.returns-clause-valued
returns-clause-valued c =
    subst (λ (list : List (ℕ × Step × Effect)). AreWorked (valued three_slots) (opening (valued three_slots))
    (with_values list) SAME_WORD_WORDS)
    (λ i. rows.same_word_with (sym c.numbered.ensures i) (sym c.numbered-2.ensures i) (sym c.numbered-3.ensures i)
    (sym c.numbered-4.ensures i) (sym c.numbered-5.ensures i)) same_word_with_values
