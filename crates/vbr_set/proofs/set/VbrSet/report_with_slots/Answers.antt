use Rattle.std.proofs.Common.{ap, sym, ◌∙◌}
use Rattle.vbr_slots.specs.views.Views.{TableView}
use Rattle.vbr_set.proofs.reports.Closings.{closes_with_slots}
use Rattle.vbr_set.proofs.reports.EntrySlots.{entries_of_keys}
use Rattle.vbr_set.proofs.set.VbrSet.report_with_slots.Goals as goal

pub returns-clause-report : goal.returns-clause-report
returns-clause-report g c =
    let kind = g.N.Kind.kind in
    let table = c.args.self.now in
    let passes = c.args.passes.now.items in
    let told = c.in_ok-told.ensures.told in
    let report = c.report-report.result in
    let slots = c.in_ok-told.slots in
    let values = sym (ap (λ (t : TableView). t.start.shape.values) c.self.view_is) ∙ c.kind.ensures in
    let reports = c.report-report.ensures table passes values told.end in
    closes_with_slots kind g.N.Kind.shown table passes c.in_ok-told.told (record { report = report; slots = slots })
    c.requires.of_set told.end reports
    (entries_of_keys table.start told.end.ends.run slots.items (kind.keys (kind.contents report).listed.items)
    told.lists (g.met.N.Kind.lists_keys _ _ _ reports.reports.listed))
