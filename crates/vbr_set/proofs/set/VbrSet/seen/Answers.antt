use Rattle.std.proofs.Common.{ap, ◌∙◌}
use Rattle.vbr_machine.specs.Calls.{own_calls}
use Rattle.vbr_machine.specs.declared.event.Event.{Event}
use Rattle.std.specs.Prelude.{List}
use Rattle.vbr_slots.specs.views.Views.{TableView}
use Rattle.vbr_set.proofs.set.VbrSet.seen.Goals as goal

pub returns-clause-tells : goal.returns-clause-tells
returns-clause-tells g c = let w = c.args.pass.now.trace in record {
  pass = c.requires.own;
  table = c.seen.ensures.table ∙ ap (λ (t : TableView). t.table) c.self.view_is;
  seen = c.seen.ensures.seen;
  own = ap (λ (es : List Event). own_calls w.start es w.who) c.seen.ensures.seen;
}
