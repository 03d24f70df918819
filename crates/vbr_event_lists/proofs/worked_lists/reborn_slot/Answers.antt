-- The numbers of the link words are those of the list, which is worked.
use Rattle.std.proofs.Common.{ℕ, List, sym, subst}
use Rattle.vbr_machine.specs.Machine.{opening}
use Rattle.vbr_machine.specs.declared.event.Effect.{Effect}
use Rattle.vbr_machine.specs.declared.event.Step.{Step}
use Rattle.vbr_event_lists.specs.Worked.{AreWorked, three_slots}
use Rattle.vbr_event_lists.specs.Valued.{valued, with_values}
use Rattle.vbr_event_lists.specs.declared.worked_lists.TheConstants.{REBORN_SLOT_WORDS}
use Rattle.vbr_event_lists.proofs.RowLists as rows
use Rattle.vbr_event_lists.proofs.WorkedRows.{reborn_slot}
use Rattle.vbr_event_lists.proofs.ValuedRows.{reborn_slot_with_values}
use Rattle.vbr_event_lists.proofs.worked_lists.reborn_slot.Goals as goal

pub returns-clause-worked : goal.returns-clause-worked
returns-clause-worked c =
    subst (λ (list : List (ℕ × Step × Effect)). AreWorked three_slots (opening three_slots) list REBORN_SLOT_WORDS)
    (λ i. rows.reborn_slot_with (sym c.numbered.ensures i) (sym c.numbered-2.ensures i) (sym c.numbered-3.ensures i)
    (sym c.numbered-4.ensures i) (sym c.numbered-5.ensures i) (sym c.numbered-6.ensures i)) reborn_slot

pub returns-clause-valued : goal.returns-clause-valued
returns-clause-valued c =
    subst (λ (list : List (ℕ × Step × Effect)). AreWorked (valued three_slots) (opening (valued three_slots))
    (with_values list) REBORN_SLOT_WORDS)
    (λ i. rows.reborn_slot_with (sym c.numbered.ensures i) (sym c.numbered-2.ensures i) (sym c.numbered-3.ensures i)
    (sym c.numbered-4.ensures i) (sym c.numbered-5.ensures i) (sym c.numbered-6.ensures i)) reborn_slot_with_values
