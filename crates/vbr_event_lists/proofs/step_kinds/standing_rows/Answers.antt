-- The numbers of the link words are those of the list, which is worked.
use Rattle.std.proofs.Common.{ℕ, List, sym, subst}
use Rattle.vbr_machine.specs.Machine.{opening}
use Rattle.vbr_machine.specs.declared.event.Effect.{Effect}
use Rattle.vbr_machine.specs.declared.event.Step.{Step}
use Rattle.vbr_event_lists.specs.Worked.{AreWorked, many_epochs}
use Rattle.vbr_event_lists.specs.declared.step_kinds.TheConstants.{STANDING_WORDS}
use Rattle.vbr_event_lists.proofs.RowLists as rows
use Rattle.vbr_event_lists.proofs.StandingRows.{standing}
use Rattle.vbr_event_lists.proofs.step_kinds.standing_rows.Goals as goal

pub returns : goal.returns
returns c = record {
  worked =
      subst (λ (list : List (ℕ × Step × Effect)). AreWorked many_epochs (opening many_epochs) list STANDING_WORDS)
      (λ i. rows.standing_rows_with (sym c.numbered.ensures i) (sym c.numbered-2.ensures i) (sym c.numbered-3.ensures i)
      (sym c.numbered-4.ensures i) (sym c.numbered-5.ensures i)) standing;
}
