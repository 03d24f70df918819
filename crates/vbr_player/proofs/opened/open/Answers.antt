use Rattle.std.proofs.Common.{ℕ, sym, ap, ◌∙◌, arith}
use Rattle.vbr_words.specs.Dimensions.{Dimensions}
use Rattle.vbr_machine.specs.Start.{Start}
use Rattle.vbr_slots.specs.views.Views.{new_passes}
use Rattle.vbr_player.proofs.Ends.{start_values}
use Rattle.vbr_player.specs.Playing.{start_for}
use Rattle.vbr_player.proofs.opened.open.Goals as goal

pub returns-in-Ok-clause-start : goal.returns-in-Ok-clause-start
returns-in-Ok-clause-start g c = c.in-Ok.ensures.table.0 ∙ g.met.N.Playable.opens c.shape.result
    ∙ ap (λ (shape : Dimensions). start_for g.N.Playable.script shape) c.shape.ensures

pub returns-in-Ok-clause-fresh : goal.returns-in-Ok-clause-fresh
returns-in-Ok-clause-fresh g c =
    let count = c.in-Ok.ensures.table.1 in
    record {
      passes = c.in-Ok.ensures.passes ∙ ap (λ (n : ℕ). new_passes c.in-Ok.set 0 n) (sym count);
      some = omega (arith, count, c.workers.ensures.workers, c.workers.ensures.within.some_worker);
      values = ap (λ (start : Start). start.shape.values)
          (c.in-Ok.ensures.table.0 ∙ g.met.N.Playable.opens c.shape.result)
          ∙ start_values g.N.Playable.script c.shape.result;
    }
