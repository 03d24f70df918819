use Rattle.std.proofs.Common.{ap, sym, ◌∙◌}
use Rattle.vbr_slots.specs.views.Views.{TableView}
use Rattle.vbr_set.proofs.reports.Closings.{closes}
use Rattle.vbr_set.proofs.set.VbrSet.report.Goals as goal

pub returns-clause-report : goal.returns-clause-report
returns-clause-report g c =
    let table = c.args.self.now in
    let passes = c.args.passes.now.items in
    let told = c.in_ok-told.ensures.told in
    let values = sym (ap (λ (t : TableView). t.start.shape.values) c.self.view_is) ∙ c.kind.ensures in
    closes g.N.Kind.kind g.N.Kind.shown table passes c.in_ok-told.told c.report.result c.requires.of_set told
    (c.report.ensures table passes values told)
