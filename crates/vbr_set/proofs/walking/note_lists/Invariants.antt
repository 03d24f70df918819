use Rattle.std.proofs.Common.{List}
use Rattle.vbr_machine.specs.Accounts.{incarnations_after}
use Rattle.vbr_machine.specs.declared.event.Event.{Event}
use Rattle.vbr_slots.specs.declared.rule.Opened.{Opened}
use Rattle.vbr_slots.specs.runs.Rule.{with_opened}
use Rattle.vbr_set.specs.reports.Walking.{AreAfter}
use Rattle.vbr_set.proofs.reports.Walks.{NotedBelow}
use Rattle.vbr_set.proofs.walking.note_lists.Given as goal

abbrev pub invariant-loop-bucket : goal.invariant-loop-bucket
invariant-loop-bucket l = (opened : Opened) (run : List Event) → AreAfter (with_opened l.shape opened) l.words run →
    NotedBelow (with_opened l.shape opened) (incarnations_after (with_opened l.shape opened) run) l.bucket l.notes
