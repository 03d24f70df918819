use Rattle.std.proofs.Common.{◌<◌, ◌≤◌, length, take, drop}
use Rattle.std.specs.Prelude.{All}
use Rattle.vbr_script.specs.Scripts.{AscendFrom}
use Rattle.vbr_player.specs.Standing.{Stand}
use Rattle.vbr_player.proofs.phases.play_span.Given as goal

-- the lines of the phases so far were played, and those of this one and later ones are left
abbrev pub invariant-loop-number : goal.invariant-loop-number
invariant-loop-number g l = record {
  inside : l.first ≤ length l.whole.lines.now;
  stand : Stand g.N.Asked.KIND l.set l.whole.budget l.whole.lines.now (take l.first l.whole.lines.now) l.set.passes
      l.fn.span.from l.number l.workers.items;
  early : All (λ line. line.phase < l.number) (take l.first l.whole.lines.now);
  later : AscendFrom l.number (drop l.first l.whole.lines.now);
}
