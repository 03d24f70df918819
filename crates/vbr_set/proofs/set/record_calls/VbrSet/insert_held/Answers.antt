use Rattle.std.proofs.Common.{sym, ap, ◌∙◌}
use Rattle.vbr_machine.specs.Start.{Start}
use Rattle.vbr_slots.specs.views.Views.{TableView}
use Rattle.vbr_set.proofs.held_slots.HeldCalls.{set_held}
use Rattle.vbr_set.proofs.set.record_calls.VbrSet.insert_held.Goals as goal

pub returns : goal.returns
returns c =
    let values =
    ap (λ (s : Start). s.shape.values) c.requires.own.1
    ∙ sym (ap (λ (t : TableView). t.start.shape.values) c.self.view_is) ∙ c.kind.ensures in
    set_held c.args.pass.now c.insert_held-answer.new.pass c.args.key c.args.budget c.args.hand
    c.insert_held-answer.result values c.law.ensures c.law-2.ensures c.insert_held-answer.ensures
