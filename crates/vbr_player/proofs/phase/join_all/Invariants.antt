use Rattle.std.proofs.Common.{◌≡◌, ◌++◌}
use Rattle.std.specs.Vec.Iter.{into_iter_items}
use Rattle.vbr_player.specs.Starting.{AreEndedBy}
use Rattle.vbr_player.proofs.phase.join_all.Given as goal

-- the workers so far have ended
abbrev pub invariant-loop-started : goal.invariant-loop-started
invariant-loop-started g l = record {
  ended : AreEndedBy g.N.Asked.KIND l.yielded l.played.items;
  all : l.yielded ++ into_iter_items l.started-iterator ≡ l.fn.all_started.items;
}
