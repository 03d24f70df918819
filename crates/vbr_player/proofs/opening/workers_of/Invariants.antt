use Rattle.std.proofs.Common.{◌≡◌, ◌++◌}
use Rattle.std.specs.List.{AllZip}
use Rattle.std.specs.Vec.Iter.{into_iter_items}
use Rattle.vbr_player.specs.Standing.{IsNewWorker}
use Rattle.vbr_player.proofs.opening.workers_of.Given as goal

-- the passes so far have workers
abbrev pub invariant-loop-pass : goal.invariant-loop-pass
invariant-loop-pass g l = record {
  new : AllZip (IsNewWorker l.set l.lines) l.yielded l.workers.items;
  all : l.yielded ++ into_iter_items l.pass-iterator ≡ l.fn.passes.items;
}
