use Rattle.std.proofs.Common.{List}
use Rattle.vbr_machine.specs.Accounts.{incarnations_after}
use Rattle.vbr_machine.specs.declared.event.Event.{Event}
use Rattle.vbr_slots.specs.declared.rule.Opened.{Opened}
use Rattle.vbr_slots.specs.runs.Rule.{with_opened}
use Rattle.vbr_set.specs.reports.Walking.{AreAfter}
use Rattle.vbr_set.proofs.reports.Walks.{Walked, left}
use Rattle.vbr_set.proofs.walking.note_list.Given as goal

abbrev pub invariant-loop-next : goal.invariant-loop-next
invariant-loop-next l = (opened : Opened) (run : List Event) → AreAfter (with_opened l.shape opened) l.words run →
    Walked (with_opened l.shape opened) (incarnations_after (with_opened l.shape opened) run) l.bucket l.fn.notes
    l.notes l.next

abbrev pub decreases-loop-next : goal.decreases-loop-next
decreases-loop-next l = left l.shape l.words l.next
