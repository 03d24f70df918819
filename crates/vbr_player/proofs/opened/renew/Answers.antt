use Rattle.std.proofs.Common.{ℕ, ◌<◌, sym, ap, subst, ◌∙◌}
use Rattle.vbr_machine.specs.Start.{Start}
use Rattle.vbr_slots.specs.views.Views.{new_passes}
use Rattle.vbr_player.specs.Closing.{RenewsAs}
use Rattle.vbr_player.proofs.Ends.{opened_values, renews_as}
use Rattle.vbr_player.proofs.opened.renew.Goals as goal

pub returns-in-Ok-clause-renewed : goal.returns-in-Ok-clause-renewed
returns-in-Ok-clause-renewed g c =
    renews_as g.met.N.Playable.played c.args.set c.args.passes.items c.in-Ok.set c.entries_open_as_their_map.ensures
    c.requires.values c.in-Ok.ensures.renewed

pub returns-in-Ok-clause-fresh : goal.returns-in-Ok-clause-fresh
returns-in-Ok-clause-fresh g c =
    let next = c.in-Ok.set in
    let renewed : RenewsAs g.N.Playable.script c.args.set c.args.passes.items next =
    renews_as g.met.N.Playable.played c.args.set c.args.passes.items next c.entries_open_as_their_map.ensures
    c.requires.values c.in-Ok.ensures.renewed in
    record {
      passes = c.in-Ok.ensures.passes ∙ ap (λ (n : ℕ). new_passes next 0 n) (sym renewed.count);
      some = subst (λ (n : ℕ). 0 < n) (sym renewed.count) c.requires.some;
      values = ap (λ (start : Start). start.shape.values) renewed.start
          ∙ opened_values g.N.Playable.script c.args.set.start renewed.listed ∙ c.requires.values;
    }
