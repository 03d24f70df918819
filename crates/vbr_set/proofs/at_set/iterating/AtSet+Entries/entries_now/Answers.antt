use Rattle.std.proofs.Common.{sym, ap, ◌∙◌}
use Rattle.vbr_machine.specs.Start.{Start}
use Rattle.vbr_slots.specs.views.Views.{TableView}
use Rattle.vbr_set.proofs.many_keys.Listing.{lists_entries}
use Rattle.vbr_set.proofs.at_set.iterating.AtSet+Entries.entries_now.Goals as goal

pub returns-clause-told : goal.returns-clause-told
returns-clause-told c =
    let values =
    ap (λ (s : Start). s.shape.values) c.args.self.now.own.1
    ∙ sym (ap (λ (t : TableView). t.start.shape.values) c.set.view_is) ∙ c.kind.ensures in
    lists_entries _ _ _ c.args.budget c.go_over.result values c.go_over.ensures.told
