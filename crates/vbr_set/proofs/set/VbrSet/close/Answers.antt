use Rattle.std.proofs.Common.{ap, sym, ◌∙◌}
use Rattle.vbr_slots.specs.views.Views.{TableView}
use Rattle.vbr_set.proofs.reports.Closings.{closes}
use Rattle.vbr_set.proofs.set.VbrSet.close.Goals as goal

pub returns-clause-ok : goal.returns-clause-ok
returns-clause-ok g c =
    let told = c.in_ok-told.ensures.ok in
    let values = sym (ap (λ (t : TableView). t.start.shape.values) c.self.view_is) ∙ c.kind.ensures in
    closes g.N.Kind.kind g.N.Kind.shown c.args.self c.args.passes.items c.in_ok-told.told c.report.result c.requires
    told (c.report.ensures c.args.self c.args.passes.items values told)
