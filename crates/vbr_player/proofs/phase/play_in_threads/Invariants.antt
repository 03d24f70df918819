use Rattle.std.proofs.Common.{◌≡◌, ◌++◌}
use Rattle.std.specs.Vec.Iter.{into_iter_items}
use Rattle.vbr_player.proofs.Starting.{AreFor}
use Rattle.vbr_player.proofs.phase.play_in_threads.Given as goal

-- the workers so far are started
abbrev pub invariant-loop-worker : goal.invariant-loop-worker
invariant-loop-worker g l = record {
  all_started : AreFor g.N.Asked.KIND l.part.budget l.part.lines.now l.all_started.items l.yielded;
  all : l.yielded ++ into_iter_items l.worker-iterator ≡ l.fn.workers.items;
}
