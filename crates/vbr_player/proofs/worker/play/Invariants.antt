use Rattle.std.proofs.Common.{◌≡◌, ◌+◌, take}
use Rattle.vbr_player.specs.Working.{Played}
use Rattle.vbr_player.proofs.worker.play.Given as goal

-- the lines before this one were played
abbrev pub invariant-loop-line : goal.invariant-loop-line
invariant-loop-line g l = record {
  next : l.next ≡ l.part.first + l.line-index;
  played : Played g.N.Asked.KIND l.part.budget (take l.line-index l.part.lines.now) l.fn.task.worker l.worker;
}
