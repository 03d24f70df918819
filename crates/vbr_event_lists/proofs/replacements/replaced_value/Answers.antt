-- The numbers of the link words are those of the list, which is worked.
use Rattle.std.proofs.Common.{ℕ, List, sym, subst}
use Rattle.vbr_machine.specs.Machine.{opening}
use Rattle.vbr_machine.specs.declared.event.Effect.{Effect}
use Rattle.vbr_machine.specs.declared.event.Step.{Step}
use Rattle.vbr_event_lists.specs.Worked.{AreWorked, many_epochs}
use Rattle.vbr_event_lists.specs.Valued.{valued}
use Rattle.vbr_event_lists.specs.declared.replacements.TheConstants.{REPLACED_VALUE_WORDS}
use Rattle.vbr_event_lists.proofs.RowLists as rows
use Rattle.vbr_event_lists.proofs.ValuedRows.{replaced_value}
use Rattle.vbr_event_lists.proofs.replacements.replaced_value.Goals as goal

pub returns : goal.returns
returns c = record {
  worked =
      subst (λ (list : List (ℕ × Step × Effect)). AreWorked (valued many_epochs) (opening (valued many_epochs)) list
      REPLACED_VALUE_WORDS)
      (λ i. rows.replaced_value_with (sym c.numbered.ensures i) (sym c.numbered-2.ensures i)
      (sym c.numbered-3.ensures i) (sym c.numbered-4.ensures i) (sym c.numbered-5.ensures i)
      (sym c.numbered-6.ensures i) (sym c.numbered-7.ensures i) (sym c.numbered-8.ensures i)) replaced_value;
}
