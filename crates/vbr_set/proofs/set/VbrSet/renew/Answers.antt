use Rattle.std.proofs.Common.{ℕ, List, ap, sym, subst, ◌∙◌}
use Rattle.std.specs.List.Sorted.{IsStrictlyIncreasing}
use Rattle.vbr_slots.specs.views.Views.{TableView}
use Rattle.vbr_set.proofs.set.VbrSet.renew.Goals as goal

pub open_many-requires-clause-ascending : goal.open_many-requires-clause-ascending
open_many-requires-clause-ascending g c =
    subst (λ (keys : List ℕ). IsStrictlyIncreasing keys) (ap g.N.Kind.kind.keys (sym c.items.ensures))
    (g.met.N.Kind.ascends _ _ _ c.in-Ok.ensures.ok.reports.listed)

pub returns-in-Ok-open_many-clause-renewed : goal.returns-in-Ok-open_many-clause-renewed
returns-in-Ok-open_many-clause-renewed g c =
    let kind = g.N.Kind.kind in
    let table = c.in-Ok-open_many.ensures.table in
    let items = (kind.contents c.in-Ok.report).listed.items in
    record {
      report = c.in-Ok.report;
      closes = c.in-Ok.ensures.ok;
      start = table.0
          ∙ (λ i. kind.start (c.shape-shape.ensures.shape i) (c.items.ensures i))
          ∙ g.met.N.Kind.reopens _ items c.shape-shape.ensures.is_start c.self.invariant.1
          ∙ ap (λ (v : TableView). kind.with_items v.start items) c.self.view_is;
      count = table.1 ∙ c.passes-count.ensures.passes ∙ ap (λ (v : TableView). v.passes) c.self.view_is;
    }
