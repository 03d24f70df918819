use Rattle.std.proofs.Common.{◌≡◌, false, Result, Ok, Err, ap, ◌∙◌}
use Rattle.std.specs.Prelude.{IfOk}
use Rattle.vbr_machine.specs.Start.{Start}
use Rattle.vbr_slots.specs.views.Views.{TableView, Trace}
use Rattle.vbr_at_table.specs.reads.Held.{said, said_marked}
use Rattle.vbr_at_table.specs.answers.Values.{MarksEntry, RemovesKey}
use Rattle.vbr_at_table.specs.declared.held.Held.{Held}
use Rattle.vbr_at_table.specs.declared.held.Marked.{Marked}
use Rattle.vbr_at_table.specs.declared.rollback.Rollback.{Rollback}
use Rattle.vbr_at_table.proofs.Lemmas.{key_removed, key_valued}
use Rattle.vbr_access.proofs.marking.mark.Goals as goal

-- a mark removes the key, whatever the table keeps of what is held
removed_by : (table : TableView) (p q : Trace) (node : Held) (result : Result Marked Rollback) →
    p.start.shape.values ≡ false → IfOk result (λ marked. MarksEntry p q node (said_marked table marked)) →
    IfOk result (λ marked. RemovesKey p q node (said_marked table marked))
removed_by table p q node (Ok marked) bare removed = key_removed p q node (Ok (said_marked table marked)) bare removed
removed_by table p q node (Err rollback) bare removed = tt

pub mark_entry-requires-clause-valued : goal.mark_entry-requires-clause-valued
mark_entry-requires-clause-valued c =
    key_valued c.args.pass.now.trace c.args.held.now.at
    (ap (λ (d : Start). d.shape.values) c.requires.own.1 ∙ c.kind.ensures)

pub returns-clause-removed : goal.returns-clause-removed
returns-clause-removed c =
    removed_by c.args.slots.now c.args.pass.now.trace c.mark_entry.new.pass.trace
    (said c.args.slots.now c.args.held.now) c.mark_entry.result
    (ap (λ (d : Start). d.shape.values) c.requires.own.1 ∙ c.kind.ensures) c.mark_entry.ensures.removed
