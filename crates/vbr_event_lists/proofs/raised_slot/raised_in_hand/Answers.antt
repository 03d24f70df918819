-- The numbers of the link words are those of the list, which is worked.
use Rattle.std.proofs.Common.{ℕ, List, sym, subst}
use Rattle.vbr_machine.specs.Machine.{opening}
use Rattle.vbr_machine.specs.declared.event.Effect.{Effect}
use Rattle.vbr_machine.specs.declared.event.Step.{Step}
use Rattle.vbr_event_lists.specs.Worked.{AreWorked, one_slot}
use Rattle.vbr_event_lists.specs.Valued.{valued, with_values}
use Rattle.vbr_event_lists.specs.declared.raised_slot.TheConstants.{RAISED_IN_HAND_WORDS}
use Rattle.vbr_event_lists.proofs.RowLists as rows
use Rattle.vbr_event_lists.proofs.WorkedRows.{raised_in_hand}
use Rattle.vbr_event_lists.proofs.ValuedRows.{raised_in_hand_with_values}
use Rattle.vbr_event_lists.proofs.raised_slot.raised_in_hand.Goals as goal

pub returns-clause-worked : goal.returns-clause-worked
returns-clause-worked c =
    subst (λ (list : List (ℕ × Step × Effect)). AreWorked one_slot (opening one_slot) list RAISED_IN_HAND_WORDS)
    (λ i. rows.raised_in_hand_with (sym c.numbered.ensures i)) raised_in_hand

pub returns-clause-valued : goal.returns-clause-valued
returns-clause-valued c =
    subst (λ (list : List (ℕ × Step × Effect)). AreWorked (valued one_slot) (opening (valued one_slot))
    (with_values list) RAISED_IN_HAND_WORDS)
    (λ i. rows.raised_in_hand_with (sym c.numbered.ensures i)) raised_in_hand_with_values
